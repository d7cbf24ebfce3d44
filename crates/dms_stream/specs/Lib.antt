pub mod Stream
pub mod Taking
pub mod Whole
