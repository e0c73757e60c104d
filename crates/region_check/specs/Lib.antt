pub mod Substitutions
pub mod Calls
pub mod Faults
pub mod Found
pub mod View
pub mod Examples
