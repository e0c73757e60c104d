pub mod Areas
pub mod Kept
pub mod Rules
pub mod Within
