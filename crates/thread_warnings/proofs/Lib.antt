pub mod Unfits
pub mod UnfitCalls
pub mod Shorts
pub mod ShortStarts
pub mod FaultCodes
pub mod RefusedStarts
pub mod Inputs
