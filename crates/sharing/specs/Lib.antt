pub mod Memory
pub mod Shares
pub mod Remembered
pub mod Rooms
pub mod Spreads
pub mod Laws
