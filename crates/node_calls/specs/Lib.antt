pub mod Told
pub mod Asks
pub mod FaultText
pub mod FaultCodes
