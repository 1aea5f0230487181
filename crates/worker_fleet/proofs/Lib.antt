mod Words
mod NextOpen
mod Moved
mod Rounds
pub mod Stopped
mod Pushed
mod Assigned
mod PushedAt
mod Gathered
pub mod Carried
mod Grouped
mod Carrying
mod OneShard
mod OneShardGroups
