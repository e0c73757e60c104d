pub mod Settings
pub mod Kept
pub mod Related
pub mod Values
pub mod Laws
pub mod Lets
