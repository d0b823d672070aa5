pub mod Cases
pub mod Claimed
pub mod Example
