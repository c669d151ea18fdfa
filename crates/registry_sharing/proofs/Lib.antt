pub mod MadeBatches
pub mod Receipted
