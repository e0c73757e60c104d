pub mod Rows
pub mod Told
pub mod Scopes
pub mod Breaks
pub mod Passed
