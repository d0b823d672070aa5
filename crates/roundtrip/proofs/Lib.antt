pub mod Form
pub mod Lines
pub mod Records
pub mod Theorems
pub mod Cases
