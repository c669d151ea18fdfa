pub mod Packed
pub mod Heads
