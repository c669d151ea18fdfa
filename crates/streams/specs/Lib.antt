pub mod Watched
pub mod Streams
pub mod Lines
pub mod Fields
pub mod FaultText
