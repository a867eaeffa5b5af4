pub mod CoreTypes
pub mod Laws
