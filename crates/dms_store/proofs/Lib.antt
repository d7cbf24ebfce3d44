pub mod ByKind
pub mod Members
pub mod Numbers
pub mod Served
pub mod Standing
