pub mod Lookup
pub mod Names
pub mod Laws
