mod Words
mod Ascending
mod Blocks
mod Increasing
pub mod Ranking
pub mod Holding
mod Records
pub mod Totals
pub mod Counting
pub mod Places
pub mod Graphs
pub mod Capacities
mod ShardLayouts
mod Crossings
pub mod Sharing
