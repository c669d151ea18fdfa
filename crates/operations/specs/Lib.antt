pub mod Operations
pub mod Counts
