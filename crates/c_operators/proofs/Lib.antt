mod Sums
mod ByClass
mod InCommon
pub mod Excuses
