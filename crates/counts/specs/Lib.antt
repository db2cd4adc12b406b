pub mod Counts
pub mod Strides
