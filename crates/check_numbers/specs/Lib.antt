pub mod Numbered
pub mod NumberedParts
pub mod InARow
