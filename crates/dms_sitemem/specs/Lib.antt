pub mod Slots
pub mod Plans
pub mod Events
pub mod Replay
pub mod Picks
pub mod Honest
pub mod Keeping
