pub mod InRange
pub mod Unsuited
pub mod Choice
