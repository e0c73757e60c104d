pub mod Places
pub mod FirstValues
pub mod Conditions
pub mod Procedures
pub mod Making
