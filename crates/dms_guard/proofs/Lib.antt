pub mod Refused
pub mod Besides
pub mod Guarding
pub mod Trails
