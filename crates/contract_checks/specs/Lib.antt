pub mod Sites
pub mod Parts
