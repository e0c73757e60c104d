pub mod Gives
pub mod Levels
pub mod Scanned
pub mod Words
pub mod Numbers
