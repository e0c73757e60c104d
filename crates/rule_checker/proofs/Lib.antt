pub mod Searches
pub mod Linked
pub mod Patterns
pub mod Told
pub mod Chained
pub mod Started
pub mod Argued
