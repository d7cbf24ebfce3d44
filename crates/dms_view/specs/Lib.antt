pub mod Looks
pub mod Looked
