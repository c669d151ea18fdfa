pub mod Coded
pub mod Verdicts
pub mod Parts
