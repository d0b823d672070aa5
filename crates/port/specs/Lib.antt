pub mod Port
