pub mod CondLaws
pub mod DescriptionLaws
pub mod Fields
pub mod MemberLaws
pub mod Numbered
pub mod Places
mod Several
pub mod Soundness
pub mod StructureLaws
mod Trees
pub mod Values
