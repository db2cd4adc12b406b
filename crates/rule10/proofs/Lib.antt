pub mod Places
pub mod Sizes
