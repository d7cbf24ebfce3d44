mod Begins
pub mod Callers
mod Laid
pub mod Rising
