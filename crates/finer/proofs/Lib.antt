pub mod Fonts
pub mod Texts
pub mod Pointed
pub mod Worked
pub mod Cases
