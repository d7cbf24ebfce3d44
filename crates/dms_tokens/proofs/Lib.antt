pub mod Cutting
pub mod Examples
pub mod Longest
pub mod NumberScan
pub mod Shapes
pub mod StringScan
pub mod WordScan
