pub mod Heads
pub mod Rejections
pub mod Requests
pub mod Stages
