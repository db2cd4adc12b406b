pub mod Clears
pub mod Words
