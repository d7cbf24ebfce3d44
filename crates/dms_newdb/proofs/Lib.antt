pub mod Sealed
pub mod Stands
