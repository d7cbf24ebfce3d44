pub mod Becoming
pub mod Contents
pub mod DescriptionFile
