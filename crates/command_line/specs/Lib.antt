pub mod Peers
pub mod Addresses
pub mod Guarded
pub mod Help
pub mod Listening
pub mod Quoted
pub mod Words
