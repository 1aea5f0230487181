mod Words
mod InFlight
mod Here
mod Quick
pub mod Routed
mod TakenIsEvent
mod Taking
pub mod Showing
pub mod Room
mod Sound
mod RingsSuffice
mod Readable
mod Moves
mod Busy
mod Rings
mod Graphs
mod Offers
mod Pumping
mod OffersArePumped
mod VertexSettles
mod ItemIsTaken
mod ToldKept
mod Repaying
mod RepayingOffers
mod RepaidRuns
pub mod TakenCounts
pub mod OnePartTakesTheBest
mod Within
mod TakenShown
mod Opened
mod Receiving
pub mod Ahead
mod WalkEnds
mod BatchFits
mod TablesOpen
pub mod OpenedAll
pub mod Sharing
pub mod Exact
pub mod UnderWay
