pub mod ListCalls
pub mod ListChanges
pub mod ListRemoves
pub mod ListWrites
pub mod Looks
pub mod Opened
pub mod Places
pub mod Walks
