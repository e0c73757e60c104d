pub mod Checks
pub mod Contract
pub mod Laws
pub mod Parts
pub mod UnsignedForms
pub mod SignedForms
pub mod Forms
