pub mod Names
pub mod TypeNames
pub mod Under
pub mod Sets
pub mod Meets
pub mod Laws
