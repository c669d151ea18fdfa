pub mod FaultText
pub mod Caps
pub mod Endings
pub mod Hearing
pub mod KeyFiles
pub mod Kept
