pub mod Conditions
pub mod Decoding
pub mod Finding
pub mod Lists
pub mod Members
pub mod Reading
pub mod Spelling
pub mod WellFormed
