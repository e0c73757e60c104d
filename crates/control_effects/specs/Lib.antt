pub mod Breaks
pub mod Falling
pub mod Unreached
pub mod Examples
