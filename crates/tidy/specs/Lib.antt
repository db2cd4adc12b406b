pub mod Forms
pub mod Claims
