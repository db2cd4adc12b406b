pub mod Runs
pub mod Words
pub mod Lines
pub mod Tests
pub mod Ended
