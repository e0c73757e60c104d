pub mod FirstValues
pub mod Entered
pub mod Wishes
