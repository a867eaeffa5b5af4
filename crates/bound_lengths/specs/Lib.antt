pub mod Kinds
pub mod Names
pub mod Pairs
pub mod Sets
pub mod Laws
