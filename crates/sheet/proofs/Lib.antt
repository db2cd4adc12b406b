pub mod Splits
pub mod Judged
pub mod Along
pub mod Answered
pub mod Alike
