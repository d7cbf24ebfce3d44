pub mod GroupExact
pub mod ParametersExact
pub mod SaidExact
pub mod SchemaComplete
pub mod SchemaSound
pub mod SetComplete
pub mod SetExact
