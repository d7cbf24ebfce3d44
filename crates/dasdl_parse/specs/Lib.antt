pub mod Grammar
pub mod ItemSpelling
pub mod Items
pub mod OptionSpelling
pub mod Parameters
pub mod ReadingLaws
pub mod Sets
