pub mod Scopes
pub mod Followed
pub mod Behind
