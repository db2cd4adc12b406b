pub mod Reading
pub mod Claims
pub mod Examples
