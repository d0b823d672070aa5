pub mod Play
pub mod Running
pub mod Steps
