pub mod Wide
pub mod Division
pub mod Unsigned
pub mod Answers
