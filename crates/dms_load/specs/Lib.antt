pub mod Drawing
pub mod Left
pub mod Muting
pub mod MutingLaws
pub mod Script
pub mod Summary
