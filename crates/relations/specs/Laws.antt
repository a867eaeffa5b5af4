-- Laws of the definitions, for the proofs here and in the crates above.
pub mod Names
pub mod Disjoint
pub mod Under
pub mod Shapes
pub mod SameForm
pub mod Walks
pub mod Subtype
pub mod Sets
pub mod Meets
pub mod Plain
pub mod Covered
pub mod Meeting
pub mod Consistent
