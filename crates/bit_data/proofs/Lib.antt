pub mod Parts
pub mod Faults
pub mod Rows
pub mod Placed
pub mod Words
