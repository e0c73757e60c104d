pub mod Answering
pub mod Values
pub mod Choices
pub mod Linked
pub mod Types
pub mod Evaluated
