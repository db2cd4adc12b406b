pub mod Laws
pub mod Tested
pub mod Laid
