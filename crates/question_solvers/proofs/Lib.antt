mod Words
pub mod QuestionKinds
pub mod Searches
pub mod FactorCosts
mod Pools
mod Sending
