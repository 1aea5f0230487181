pub mod Holding
pub mod Keeping
pub mod Leaving
pub mod Lent
pub mod Refusals
pub mod Reweighing
pub mod Rooms
pub mod Texts
