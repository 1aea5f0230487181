pub mod Greatest
pub mod Numbers
pub mod Reweighing
pub mod Tails
