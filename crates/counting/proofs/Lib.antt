pub mod Flags
pub mod Runs
pub mod Symbols
pub mod Hashes
pub mod Rising
pub mod Plain
