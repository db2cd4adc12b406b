pub mod LargestHold
