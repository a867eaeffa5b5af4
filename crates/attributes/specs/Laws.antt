-- Laws for the proofs here and in the crates above.
pub mod Place
pub mod EntityAttribute
pub mod MayHave
pub mod Literal
