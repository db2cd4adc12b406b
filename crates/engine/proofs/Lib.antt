pub mod Rule15
pub mod Accepted
pub mod Answered
pub mod Judged
