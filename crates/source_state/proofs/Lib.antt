pub mod Fresh
pub mod Checks
