mod Words
pub mod LevelsAreLeast
mod OneArc
mod OneVertex
mod Marking
pub mod Trees
mod Chains
pub mod Told
mod Existing
mod VisitingBack
mod RegionTrees
mod UpTo
mod Blank
