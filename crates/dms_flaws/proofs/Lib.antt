pub mod Passing
pub mod Ruled
pub mod Saying
pub mod Behind
pub mod Trails
