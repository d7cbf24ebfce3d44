pub mod Restored
pub mod RestoreStatuses
pub mod Backs
pub mod Mending
pub mod Beside
