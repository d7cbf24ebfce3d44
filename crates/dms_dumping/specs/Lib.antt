pub mod Refusing
pub mod Statuses
pub mod Preparing
pub mod Writing
pub mod DumpDoes
pub mod Filling
