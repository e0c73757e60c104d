pub mod View
pub mod Chains
pub mod Places
pub mod Examples
