pub mod Shapes
pub mod Laid
pub mod Bytes
pub mod Faults
pub mod Store
