pub mod Fine
pub mod Unique
pub mod Within
