pub mod Limits
pub mod Same
pub mod Words
pub mod Table
pub mod Texts
pub mod Answers
pub mod Scanning
pub mod Tokens
