pub mod Within
pub mod Calls
pub mod Choices
pub mod Found
pub mod Start
pub mod Reports
pub mod Entries
pub mod Areas
