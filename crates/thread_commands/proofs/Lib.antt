pub mod CheckedRuns
pub mod Ended
pub mod Recorded
