pub mod Positions
pub mod Numbered
