pub mod Grammar
pub mod Spelled
pub mod Kinds
pub mod Reader
pub mod Checks
pub mod Neighbours
pub mod Example
pub mod Laws
