pub mod KeptForm
pub mod Unique
