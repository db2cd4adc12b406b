pub mod Flags
pub mod Passing
