pub mod Words
pub mod Seats
pub mod Cells
pub mod Receipts
pub mod Pieces
pub mod Refusals
pub mod Workers
pub mod Batches
