pub mod ZeroCells
pub mod Rests
