pub mod Failures
pub mod Hearing
pub mod Peers
pub mod Reached
pub mod Sent
