pub mod Lemmas
pub mod LogWalks
