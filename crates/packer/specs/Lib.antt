pub mod Glyphs
pub mod Packing
pub mod Steps
