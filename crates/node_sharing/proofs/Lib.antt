pub mod MoreMade
