pub mod Checked
pub mod Recordings
pub mod Said
