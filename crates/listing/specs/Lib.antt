pub mod Listing
pub mod Refused
pub mod Claims
pub mod Examples
