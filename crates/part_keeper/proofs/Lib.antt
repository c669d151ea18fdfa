pub mod BoundedLines
pub mod FirstLines
pub mod Keeping
pub mod MadeAgain
pub mod Pieces
pub mod RecordedLives
pub mod Walks
pub mod Wholes
