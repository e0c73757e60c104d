pub mod Comes
pub mod Rests
