pub mod Row
pub mod Language
pub mod Reader
pub mod Good
pub mod Exact
pub mod Example
