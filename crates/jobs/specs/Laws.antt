-- Laws of the definitions, for the proofs here and in the crates above.
pub mod Text
pub mod Operations
pub mod Questions
pub mod Checks
pub mod Whole
pub mod Lines
pub mod Walk
pub mod Asking
