pub mod View
pub mod Names
pub mod Conversions
pub mod Ranges
pub mod Promotions
pub mod Scalars
pub mod Structs
