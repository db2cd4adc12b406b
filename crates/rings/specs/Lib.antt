pub mod Ring
pub mod Steps
pub mod Calls
