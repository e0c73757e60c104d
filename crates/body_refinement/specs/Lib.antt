pub mod Bodies
pub mod Kinds
pub mod Laws
pub mod Results
pub mod Statements
