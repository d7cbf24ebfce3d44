pub mod Firsts
pub mod EntryWidths
pub mod DataSets
pub mod Shaping
