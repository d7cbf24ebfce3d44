pub mod Names
pub mod World
pub mod Seen
pub mod Empty
pub mod Untold
