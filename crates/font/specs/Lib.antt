pub mod Font
pub mod Whole
