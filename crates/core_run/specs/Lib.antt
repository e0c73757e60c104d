pub mod Reports
pub mod Calls
pub mod Loops
pub mod Entries
pub mod Found
pub mod Within
