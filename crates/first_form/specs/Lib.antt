pub mod Valid
pub mod Stands
pub mod Laws
pub mod Answers
pub mod Parts
pub mod Tables
