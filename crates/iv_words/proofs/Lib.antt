pub mod Columns
pub mod Widths
pub mod Modular
pub mod Ranges
pub mod Equality
