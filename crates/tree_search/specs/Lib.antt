pub mod Marks
pub mod Rows
pub mod Opening
pub mod Searching
pub mod Nearest
pub mod Searcher
