pub mod Rounds
pub mod Spreads
