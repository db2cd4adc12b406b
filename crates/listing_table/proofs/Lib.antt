pub mod Lines
pub mod Placing
pub mod Tabling
pub mod Filled
