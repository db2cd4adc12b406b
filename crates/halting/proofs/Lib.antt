pub mod Passes
pub mod LoopLines
pub mod Halting
