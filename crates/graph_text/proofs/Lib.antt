mod Words
pub mod RuleLaws
mod GraphParserLaws
pub mod WrittenGraphs
mod GraphIsSaid
