pub mod LineAsks
pub mod Made
pub mod Seats
pub mod Faults
pub mod Waited
