pub mod Cases
pub mod Count
pub mod Counting
pub mod Exist
pub mod Fair
pub mod Proved
pub mod Stream
