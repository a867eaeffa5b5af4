-- Laws for the proofs here and in the crates above.
pub mod Steps
pub mod Lists
