pub mod Differ
pub mod Twins
