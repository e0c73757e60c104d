pub mod Standing
pub mod Answering
pub mod FormLaws
