pub mod Rest
pub mod Calls
pub mod Values
