pub mod Latest
pub mod Tables
pub mod Scoped
pub mod FirstPlaces
