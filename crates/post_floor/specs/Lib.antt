pub mod Boxes
pub mod Floor
pub mod Plays
pub mod Claims
pub mod Seats
pub mod Data
pub mod Closing
pub mod Hints
