pub mod ScriptText
pub mod Answers
pub mod Cuts
pub mod Fit
pub mod Report
pub mod Examples
