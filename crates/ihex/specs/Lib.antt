pub mod Digits
pub mod Lines
pub mod Records
pub mod Codes
pub mod Reading
pub mod Steps
