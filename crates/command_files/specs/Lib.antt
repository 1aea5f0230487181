pub mod Moments
pub mod Inputs
pub mod Refusals
pub mod Opening
pub mod Added
pub mod Times
