pub mod Stays
mod LastRows
