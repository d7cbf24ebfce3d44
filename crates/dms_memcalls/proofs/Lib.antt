pub mod Grown
pub mod Fresh
pub mod Struck
