pub mod Cases
pub mod Every
pub mod Same
pub mod Example
