pub mod Moves
pub mod Turns
pub mod Drives
pub mod Assigned
pub mod Dealt
pub mod Groups
pub mod Stops
pub mod OneShard
