pub mod Answers
pub mod Clocks
pub mod Unique
