pub mod Counts
pub mod Spelling
