pub mod Bits
pub mod Kinds
pub mod Lines
pub mod Words
pub mod formers
