pub mod Lines
pub mod Views
pub mod Scans
pub mod Scanned
pub mod Checked
pub mod Waits
pub mod WaitLines
