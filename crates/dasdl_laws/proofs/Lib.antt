mod Alone
mod Compiling
mod Counted
mod Filled
mod Judged
mod Judging
pub mod Keys
mod Levels
mod Literals
mod Members
mod Nested
mod Opened
mod Ordered
mod Outline
mod Owned
mod Owners
mod Parameters
mod Parts
mod Placed
mod Sets
mod Short
pub mod Sound
mod Structures
mod Together
pub mod Trees
mod Turns
mod Written
