pub mod Multiples
pub mod Layouts
pub mod Windows
pub mod Scalars
pub mod Parts
pub mod Paths
pub mod Values
