pub mod Bounds
pub mod Found
pub mod Orders
