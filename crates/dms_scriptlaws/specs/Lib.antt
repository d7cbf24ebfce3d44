pub mod Circles
pub mod Told
pub mod Truths
