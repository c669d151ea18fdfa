pub mod Counts
pub mod NodeSums
pub mod Learned
pub mod Shown
pub mod PointJoins
pub mod SetJoins
pub mod StateJoins
