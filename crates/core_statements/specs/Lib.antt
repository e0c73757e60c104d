pub mod Parts
pub mod Initial
pub mod Replies
pub mod Simple
