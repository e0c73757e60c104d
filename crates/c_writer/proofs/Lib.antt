pub mod Stages
pub mod Lists
pub mod Depths
