pub mod News
pub mod Senders
