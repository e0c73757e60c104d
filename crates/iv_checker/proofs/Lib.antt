pub mod InARow
pub mod Collected
pub mod Standing
pub mod Answered
pub mod Tabled
