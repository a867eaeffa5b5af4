pub mod SchemaBytes
pub mod Returns
pub mod Offsets
pub mod Entries
pub mod Schema
pub mod Laws
