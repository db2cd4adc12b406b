pub mod Rest
pub mod RegisterOne
pub mod Values
