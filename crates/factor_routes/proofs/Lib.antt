mod Words
mod Greatest
pub mod Tails
mod Carrying
mod Telling
mod Climbing
