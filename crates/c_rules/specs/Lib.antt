pub mod Depths
pub mod Kept
pub mod Forms
pub mod Sizes
pub mod Members
pub mod UnitRows
