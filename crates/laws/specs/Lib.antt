pub mod Lines
pub mod Lists
pub mod Pick
pub mod Placing
pub mod Said
pub mod Sums
pub mod Within
