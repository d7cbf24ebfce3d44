pub mod Counted
pub mod Looks
pub mod Behind
pub mod Ended
pub mod Fills
pub mod Dumped
