pub mod Types
pub mod State
pub mod Changes
