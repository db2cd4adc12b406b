pub mod ByByte
