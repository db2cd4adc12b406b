pub mod Undone
pub mod Labels
pub mod Computed
