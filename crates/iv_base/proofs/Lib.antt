pub mod Digits
pub mod Prefixes
pub mod Tables
