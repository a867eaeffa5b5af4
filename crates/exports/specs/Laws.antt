-- Laws for the exports' proofs.
pub mod Brief
pub mod Checks
