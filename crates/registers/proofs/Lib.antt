pub mod Filling
pub mod CanHold
