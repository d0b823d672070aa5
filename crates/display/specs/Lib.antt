pub mod Words
pub mod Cells
pub mod Picture
pub mod Painting
pub mod Steps
