pub mod Vertices
pub mod Numbers
pub mod GraphFiles
pub mod GraphTakes
pub mod GraphLines
pub mod WrittenGraphs
