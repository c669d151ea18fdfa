pub mod Asks
pub mod Calls
pub mod Known
pub mod Waits
pub mod Workers
