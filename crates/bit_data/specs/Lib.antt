pub mod Layouts
pub mod Answers
pub mod Fields
pub mod Laws
