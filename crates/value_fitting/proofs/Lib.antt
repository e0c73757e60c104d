pub mod Values
pub mod States
pub mod Expressions
pub mod Arguments
pub mod Inits
