pub mod Judging
pub mod ReadLaws
pub mod SlotLaws
pub mod Slots
