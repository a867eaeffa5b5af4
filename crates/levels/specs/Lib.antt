pub mod Deepest
pub mod Laws
