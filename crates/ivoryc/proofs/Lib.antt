pub mod Numbers
pub mod ModuleTexts
pub mod Once
pub mod Answered
pub mod TextSteps
pub mod Steps
pub mod Places
