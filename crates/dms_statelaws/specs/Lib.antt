pub mod Standing
pub mod Dumps
pub mod DumpsStay
pub mod Pending
pub mod Stopping
pub mod Statements
pub mod Laws
pub mod SiteLaws
