pub mod Lists
pub mod Stack
pub mod ListCheck
pub mod Replies
