pub mod View
pub mod Offsets
pub mod Digits
pub mod Rows
