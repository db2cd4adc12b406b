pub mod Countable
