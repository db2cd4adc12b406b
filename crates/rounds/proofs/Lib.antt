pub mod Aside
pub mod Around
mod Compared
