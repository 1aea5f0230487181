mod Words
pub mod Certified
mod Entering
mod EvidenceAdds
mod EvidenceMeans
pub mod FirstPlaces
mod Marks
mod PairsJudged
mod FirstWrong
mod ChunksAreRight
mod Sharing
