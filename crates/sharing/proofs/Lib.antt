pub mod Cases
pub mod Cells
pub mod Shared
pub mod Fewest
