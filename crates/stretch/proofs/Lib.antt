mod Dots
pub mod Unique
