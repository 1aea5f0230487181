pub mod Numbering
pub mod Rows
pub mod BestRoad
pub mod RouteArcs
