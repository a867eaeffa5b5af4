pub mod Joins
pub mod TypedSets
pub mod Laws
