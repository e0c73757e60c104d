pub mod Open
pub mod Nesting
pub mod Law
pub mod Limit
pub mod Examples
