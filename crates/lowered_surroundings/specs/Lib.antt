pub mod Surroundings
pub mod Laws
