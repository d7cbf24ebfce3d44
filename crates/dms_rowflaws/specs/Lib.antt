pub mod Numbers
pub mod Blocks
pub mod Shapes
pub mod Records
pub mod Members
