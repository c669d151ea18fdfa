pub mod Heads
pub mod Ready
