pub mod Laws
pub mod TypesAgree
pub mod Clean
