pub mod Steps
pub mod Wave
