pub mod FaultText
pub mod Limits
pub mod Messages
pub mod Spelling
pub mod Reading
