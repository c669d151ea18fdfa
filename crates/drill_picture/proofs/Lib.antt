pub mod Growing
pub mod Texts
pub mod Levels
pub mod Adds
