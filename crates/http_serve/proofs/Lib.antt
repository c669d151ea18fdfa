mod Calls
mod Crossing
mod Forgotten
mod Recorded
mod Spreads
