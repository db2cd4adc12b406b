pub mod Registers
pub mod OneRegister
pub mod Rings
pub mod Ordered
pub mod Steps
pub mod Running
pub mod Whole
pub mod Answered
