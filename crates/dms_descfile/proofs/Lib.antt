pub mod Created
pub mod Found
