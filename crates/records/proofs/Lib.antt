pub mod Copies
pub mod Gathers
