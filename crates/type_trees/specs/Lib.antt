pub mod Trees
pub mod Multiples
pub mod Layouts
pub mod Windows
pub mod Values
pub mod Laws
pub mod Examples
