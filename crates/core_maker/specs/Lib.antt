pub mod Places
pub mod Opened
pub mod Chains
pub mod Postfixes
pub mod Forms
pub mod Initializers
