pub mod Made
pub mod Spread
