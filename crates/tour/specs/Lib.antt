pub mod Stops
pub mod InMemory
