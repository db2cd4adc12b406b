pub mod Longer
pub mod Clears
pub mod Charges
pub mod Tidy
pub mod Values
pub mod Sizes
