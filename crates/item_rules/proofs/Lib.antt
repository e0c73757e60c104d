pub mod PlainTrees
pub mod NodeRows
pub mod Steps
pub mod StructSizes
pub mod Joined
