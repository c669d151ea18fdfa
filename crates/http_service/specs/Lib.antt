pub mod Clients
pub mod Endings
pub mod Exchanges
pub mod FaultText
