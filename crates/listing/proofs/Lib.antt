pub mod Places
pub mod Follows
pub mod Targets
pub mod Demand
pub mod Fits
pub mod Spelled
pub mod Texts
pub mod Computed
