pub mod Reports
pub mod Explained
