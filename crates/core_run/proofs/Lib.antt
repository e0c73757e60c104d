pub mod Calls
pub mod Within
pub mod Walks
pub mod EntryCalls
pub mod Seen
pub mod Outcomes
