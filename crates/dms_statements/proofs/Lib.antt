pub mod LongNumbers
pub mod RowTurns
