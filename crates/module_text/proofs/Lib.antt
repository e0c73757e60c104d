pub mod Verdicts
pub mod Places
pub mod Told
pub mod Trees
