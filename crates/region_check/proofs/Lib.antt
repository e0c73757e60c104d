pub mod Apart
pub mod Known
pub mod Accepted
pub mod Calls
pub mod SoFar
pub mod Examples
