pub mod View
pub mod Sites
pub mod Exported
pub mod Examples
pub mod PickExample
