pub mod First
pub mod Spared
pub mod Strides
pub mod Turning
pub mod Unique
