pub mod Members
pub mod Counts
pub mod Order
