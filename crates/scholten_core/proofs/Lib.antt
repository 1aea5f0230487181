mod Words
pub mod Basics
pub mod Walks
pub mod CoreInvariant
pub mod StepCases
mod Rooted
pub mod Ended
pub mod Shares
pub mod Items
pub mod Counts
mod MessagesFollowLabels
mod Reach
mod BestFirst
pub mod Networks
mod SharedWalks
pub mod Quick
mod Counted
mod Written
mod Sized
mod Offered
mod Pumping
mod CoreSteps
mod Opened
mod GraphReads
mod RunReads
pub mod EveryRun
pub mod Busy
mod Trails
mod SimpleWalks
mod Falling
mod Finite
mod Ending
mod Schedules
