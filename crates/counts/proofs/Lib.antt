pub mod Single
pub mod Counting
mod Stretching
pub mod Whole
