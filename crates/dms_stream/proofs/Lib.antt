pub mod Steps
pub mod Texts
pub mod Chains
pub mod Pieces
pub mod Records
