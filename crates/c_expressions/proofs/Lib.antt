pub mod Frames
pub mod Choices
pub mod Meanings
pub mod Members
