pub mod Auditing
pub mod Carried
pub mod Compiling
pub mod Counting
pub mod Creating
pub mod Cutting
pub mod Digits
pub mod Judgements
pub mod Printing
pub mod Shipping
pub mod Taken
pub mod Trying
pub mod Words
pub mod WholeInput
mod Running
mod Utility
mod Commands
mod LoadWords
pub mod ShipWords
