pub mod OffsetTable
pub mod Lists
pub mod Walks
