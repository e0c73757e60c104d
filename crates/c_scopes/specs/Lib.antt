pub mod Joined
pub mod Walks
pub mod Views
pub mod Tables
pub mod StructViews
pub mod Shapes
pub mod Scope
pub mod Separated
