pub mod Fields
pub mod Laid
pub mod Laying
pub mod Prefix
pub mod PrefixLaws
