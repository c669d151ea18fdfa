pub mod Answers
pub mod Bodies
pub mod FaultText
pub mod Forgetting
pub mod Keys
pub mod Posts
