pub mod Keeping
pub mod Points
