pub mod Signs
pub mod Outside
pub mod Effects
pub mod Instructions
pub mod AllUsable
pub mod Entered
pub mod Running
