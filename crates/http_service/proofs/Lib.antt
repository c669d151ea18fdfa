mod Crossing
mod Delays
mod Endings
mod Exchanges
mod Questions
