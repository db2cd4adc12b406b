pub mod LineParts
pub mod LineNumbers
