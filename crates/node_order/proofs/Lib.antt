pub mod Ordered
pub mod Placed
pub mod Shown
pub mod ShownStatements
pub mod ShownItems
