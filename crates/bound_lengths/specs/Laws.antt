-- Laws of the definitions, for the proofs here and in the crates above.
pub mod Names
pub mod Kinds
pub mod Pairs
pub mod Sets
pub mod Lengths
pub mod Shapes
pub mod Bounds
pub mod PastSets
