-- Laws for the proofs here and in the crates above.
pub mod Lookup
pub mod Names
