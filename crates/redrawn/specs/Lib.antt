pub mod Screen
pub mod Picture
pub mod Example
