pub mod FileWritten
pub mod Seen
pub mod SlotBlockLaws
pub mod SlotBlocks
pub mod Written
