pub mod Cuts
pub mod Numbers
pub mod Reserved
pub mod Leaves
pub mod Depths
pub mod Opening
pub mod Shrinks
pub mod Turned
