pub mod Operations
pub mod JobBytes
pub mod Checks
pub mod LineBytes
pub mod Walk
pub mod Laws
