-- The account of this crate, for other crates to cite.
pub mod Lines
