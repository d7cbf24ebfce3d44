pub mod Feeds
pub mod Lines
pub mod Raws
