pub mod Held
pub mod Fresh
