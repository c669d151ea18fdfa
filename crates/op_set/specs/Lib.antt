pub mod Counts
pub mod Shown
pub mod SetOrder
