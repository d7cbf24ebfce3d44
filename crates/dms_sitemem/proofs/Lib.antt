pub mod Crashes
pub mod Draws
pub mod Keeps
pub mod Kept
pub mod Laid
pub mod Placed
