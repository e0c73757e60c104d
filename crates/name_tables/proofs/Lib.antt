pub mod Declarations
pub mod Shadowings
pub mod FirstPlaces
