pub mod Lending
pub mod Questions
pub mod Solved
pub mod Solvers
pub mod Tasks
