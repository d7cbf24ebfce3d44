pub mod Cleared
pub mod LaidMore
pub mod Parts
pub mod Making
pub mod Found
