pub mod Stages
pub mod Depths
pub mod Separated
