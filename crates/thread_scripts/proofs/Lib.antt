pub mod Runs
pub mod Numbered
pub mod LegalRuns
pub mod NodeLists
pub mod StartLines
pub mod Started
pub mod Counted
pub mod Wires
