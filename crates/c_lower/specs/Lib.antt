pub mod Shape
pub mod Refines
pub mod Lowered
pub mod Compiled
