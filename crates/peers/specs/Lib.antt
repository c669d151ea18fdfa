pub mod Book
pub mod Codes
pub mod Heard
pub mod Hello
pub mod Pacing
pub mod Waits
