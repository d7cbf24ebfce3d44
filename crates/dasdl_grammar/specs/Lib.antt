pub mod GroupSpelling
pub mod ParameterSpelling
pub mod ReadingLaws
pub mod SaidSpelling
pub mod SchemaSpelling
pub mod SetSpelling
