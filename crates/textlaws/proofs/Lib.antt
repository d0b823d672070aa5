pub mod Alike
pub mod Same
pub mod Order
pub mod Count
pub mod Cases
