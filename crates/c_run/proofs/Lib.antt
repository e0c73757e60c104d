pub mod Within
pub mod Calls
pub mod Walks
pub mod EntryCalls
pub mod Statements
pub mod FrameSteps
pub mod Outcomes
pub mod AreaValues
