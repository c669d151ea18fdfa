pub mod Calls
pub mod Gossips
pub mod Plays
pub mod Laws
pub mod Outputs
