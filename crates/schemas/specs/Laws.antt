-- Laws of the definitions, for the proofs here and in the crates above.
pub mod Walks
pub mod Bodies
pub mod Order
pub mod Arguments
pub mod SchemaTwin
pub mod Checks
pub mod Entries
pub mod Finders
