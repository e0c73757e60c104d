pub mod Reads
pub mod Scopes
pub mod Forms
pub mod Operands
pub mod Chains
