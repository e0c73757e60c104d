pub mod Opening
pub mod Further
