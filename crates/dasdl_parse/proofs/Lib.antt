pub mod ItemExact
pub mod ItemOptionsExact
pub mod OptionsExact
