pub mod Verdicts
pub mod Counts
pub mod Kinds
pub mod Walks
pub mod Laws
