pub mod Counts
pub mod Demand
pub mod Theorems
