pub mod Counts
pub mod Sums
pub mod Tally
pub mod Used
pub mod Gone
