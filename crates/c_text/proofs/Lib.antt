pub mod Nesting
pub mod Plain
pub mod Shallow
pub mod FirstFault
