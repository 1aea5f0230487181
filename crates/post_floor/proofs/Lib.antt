mod Words
pub mod Totals
pub mod Parts
mod Order
pub mod Ordering
mod OneShard
mod Keeps
mod Changes
mod Exchanges
pub mod Done
mod Called
mod Turning
mod Claiming
pub mod Seats
mod Seated
mod Opening
pub mod Opened
mod Closing
pub mod Carrying
mod Quiet
mod Shown
pub mod Still
