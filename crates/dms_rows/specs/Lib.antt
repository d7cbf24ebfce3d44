pub mod Alone
pub mod AloneLaws
pub mod RowLaws
pub mod Rows
pub mod PlaceLaws
