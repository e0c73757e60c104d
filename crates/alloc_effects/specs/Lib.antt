pub mod Permissions
pub mod Effects
pub mod Examples
