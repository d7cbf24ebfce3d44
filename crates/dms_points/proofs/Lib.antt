pub mod Found
pub mod Fronts
pub mod Marks
pub mod Stands
