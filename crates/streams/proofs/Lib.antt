pub mod Flows
pub mod Texts
