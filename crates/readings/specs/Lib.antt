pub mod Example
pub mod Refusals
pub mod Results
pub mod Orders
pub mod Examples
