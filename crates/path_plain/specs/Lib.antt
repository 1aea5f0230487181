pub mod Opening
pub mod Queue
pub mod Searching
pub mod Ties
pub mod UpTo
pub mod Noting
pub mod Rounds
pub mod Searcher
