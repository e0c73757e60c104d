pub mod Names
pub mod Arrays
pub mod Types
pub mod Constants
pub mod Initializers
pub mod Declarations
pub mod Examples
