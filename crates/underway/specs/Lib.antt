pub mod Places
pub mod Ends
pub mod Inside
