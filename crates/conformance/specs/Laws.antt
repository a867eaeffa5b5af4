-- Laws of the definitions, for the proofs of this crate.
pub mod Tables
pub mod Taken
pub mod Kinds
pub mod Names
pub mod Values
pub mod Verdicts
pub mod Arguments
pub mod Calls
pub mod Pairs
pub mod Required
pub mod Members
pub mod Records
pub mod Conforms
