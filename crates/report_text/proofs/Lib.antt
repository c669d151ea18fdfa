pub mod Walks
pub mod Plain
