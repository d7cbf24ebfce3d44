pub mod Growing
pub mod Begun
pub mod Picked
pub mod Agreeing
pub mod Going
pub mod Settling
