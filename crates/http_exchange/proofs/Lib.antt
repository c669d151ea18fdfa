mod Blocks
mod Fields
mod Joined
mod Loopback
mod Marks
mod Pieces
mod Ports
