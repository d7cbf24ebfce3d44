pub mod Differs
pub mod Twinned
