pub mod Description
pub mod Filling
pub mod LoadDoes
pub mod Loading
pub mod Statuses
