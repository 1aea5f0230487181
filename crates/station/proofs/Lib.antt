mod Words
mod Batches
mod Behind
mod Counted
mod Trying
mod Through
mod Stepping
mod Over
mod Labels
mod Turns
pub mod Opening
pub mod Carrying
mod Places
mod Tallying
mod Closed
pub mod ExactCounts
mod QuietTries
mod QuietRound
mod OneShard
