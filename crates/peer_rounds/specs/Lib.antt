pub mod Losses
pub mod Rounds
pub mod Sharing
pub mod Taken
pub mod Told
