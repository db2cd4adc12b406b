pub mod Drains
pub mod Pours
