pub mod Answering
pub mod Counting
pub mod Noting
pub mod Sites
pub mod Walks
pub mod Wholes
pub mod Written
