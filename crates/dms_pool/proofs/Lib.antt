pub mod Callers
pub mod Lasts
pub mod Leaving
pub mod Same
pub mod Sound
pub mod Washed
pub mod Fewer
