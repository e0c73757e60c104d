pub mod ExpressionTypes
pub mod Staged
pub mod NamesApart
pub mod Meeting
pub mod DeclaredTypes
pub mod Collected
pub mod LocalTypes
pub mod Procedures
