pub mod FirstEntries
pub mod Creation
pub mod Laid
pub mod Clearing
pub mod Plans
pub mod FoundAgain
