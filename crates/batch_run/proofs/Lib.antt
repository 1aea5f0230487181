mod Words
mod Ahead
mod SourceByMore
mod WrittenLines
pub mod CauseCases
mod AnsweredFirst
mod Existing
pub mod Prefixes
mod OfInputs
pub mod Stopped
pub mod Suiting
pub mod OneShard
mod Together
mod SourcesToCome
mod NextDiffusions
mod MeanWeight
mod Moved
mod Reporting
mod WrittenReports
mod Watching
mod Telling
mod Flushing
mod Sending
