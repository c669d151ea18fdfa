pub mod AsBox
pub mod Conversion
pub mod Crossing
mod NumberedPoints
pub mod Owned
mod Served
