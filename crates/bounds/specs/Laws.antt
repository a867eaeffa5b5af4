-- Laws of the definitions, for the proofs here and in the crates above.
pub mod Unions
pub mod Flags
pub mod UntypedSets
pub mod KeptAttributes
pub mod BoundWrites
pub mod TypedSets
pub mod Attached
pub mod Joining
