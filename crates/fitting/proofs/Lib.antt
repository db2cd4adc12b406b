pub mod Unpacked
pub mod Bounds
pub mod Fitting
