mod Words
pub mod Known
pub mod Rounds
pub mod Waiting
pub mod Noting
mod Steps
pub mod Offering
pub mod Existing
pub mod UpTo
mod Running
