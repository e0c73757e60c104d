pub mod Staged
pub mod Added
pub mod Suffixes
pub mod Answered
