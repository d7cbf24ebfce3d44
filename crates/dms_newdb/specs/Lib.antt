pub mod JudgedSchema
pub mod Judging
pub mod Saying
pub mod State
