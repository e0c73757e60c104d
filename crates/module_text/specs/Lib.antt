pub mod Lines
pub mod Verdicts
pub mod Answers
pub mod Trees
