pub mod Journals
pub mod Kept
pub mod Outs
pub mod Pieces
pub mod RecordedLives
pub mod Repeated
pub mod Wholes
