pub mod ByByte
pub mod ReadWord
