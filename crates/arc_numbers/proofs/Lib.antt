mod Words
mod Reordered
mod Following
mod Choosing
mod BestSteps
mod MoreRows
