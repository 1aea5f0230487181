pub mod SmallGraphs
