pub mod Clients
pub mod Forgotten
pub mod Recorded
pub mod Served
pub mod Spreads
