pub mod Lines
pub mod Along
pub mod Named
pub mod Checked
pub mod Cells
