pub mod Places
pub mod Padded
pub mod Starts
pub mod Capacities
pub mod Distinct
pub mod Seen
pub mod Fitting
