pub mod Both
pub mod Guard
pub mod GuardLaws
pub mod Bare
pub mod Faults
pub mod Statuses
