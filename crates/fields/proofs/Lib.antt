pub mod Splits
pub mod Numbers
pub mod Kept
pub mod Reading
