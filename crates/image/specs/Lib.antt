pub mod Lists
pub mod Image
