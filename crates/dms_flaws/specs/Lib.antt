pub mod Firsts
pub mod Rules
pub mod Numbered
pub mod Entries
