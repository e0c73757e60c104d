pub mod Fitting
pub mod Scoped
pub mod Laws
