pub mod Bodies
pub mod EntryLaws
pub mod PairLaws
pub mod Reading
pub mod Seen
pub mod Spelling
