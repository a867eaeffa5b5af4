pub mod Heads
pub mod Buffers
