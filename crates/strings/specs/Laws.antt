-- Laws of the definitions, for the proofs of this crate.
pub mod Steps
pub mod Bodies
pub mod Plain
