pub mod Inits
pub mod Lists
pub mod Written
