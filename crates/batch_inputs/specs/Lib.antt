pub mod Spelled
pub mod InputFaults
pub mod FaultTexts
pub mod Inputs
pub mod Orders
pub mod InputLaws
