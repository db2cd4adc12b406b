pub mod Fresh
pub mod Rows
pub mod Printed
