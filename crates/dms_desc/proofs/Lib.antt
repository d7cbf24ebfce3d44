mod Maps
pub mod Numbers
