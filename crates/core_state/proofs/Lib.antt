pub mod Views
pub mod Rows
pub mod Structs
pub mod Places
pub mod Filled
pub mod Entering
