-- The proofs of this crate that are not of one function.
pub mod Printed
pub mod Checking
pub mod Unique
