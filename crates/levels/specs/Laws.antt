-- Laws of the definitions, for the proofs of this crate.
pub mod Deepest
