pub mod Walks
pub mod Rows
pub mod ScopeLists
pub mod FoundPlaces
