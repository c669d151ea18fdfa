pub mod FaultText
pub mod Opened
