pub mod Reasons
pub mod Certificates
pub mod Verdicts
pub mod Evidence
pub mod Marked
pub mod Places
pub mod Pairs
pub mod Chunks
