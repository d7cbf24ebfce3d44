pub mod Starting
pub mod Faults
pub mod Turns
