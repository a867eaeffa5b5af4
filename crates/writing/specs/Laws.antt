-- Laws of the definitions, for the proofs here and in the crates above.
pub mod FormLengths
pub mod Writing
pub mod Laying
