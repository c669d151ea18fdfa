pub mod Report
pub mod Lines
pub mod Peers
pub mod Json
pub mod Laws
pub mod Status
