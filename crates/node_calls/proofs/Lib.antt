mod ToldLemmas
pub mod FaultCodes
