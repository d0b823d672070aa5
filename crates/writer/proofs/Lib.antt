pub mod Lists
pub mod Spelling
pub mod Rows
pub mod Places
pub mod Unique
