pub mod Words
pub mod Spaces
pub mod Outputs
pub mod Schedules
pub mod LinesLeft
pub mod Checks
pub mod Counting
pub mod Printed
