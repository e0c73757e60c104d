pub mod Parts
pub mod Arguments
pub mod Steps
pub mod Given
pub mod Numbers
pub mod Stores
pub mod Cells
pub mod Replies
