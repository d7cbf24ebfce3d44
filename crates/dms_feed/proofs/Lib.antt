pub mod Ending
pub mod Feeding
pub mod Reading
