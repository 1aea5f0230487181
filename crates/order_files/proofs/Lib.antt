mod Placing
mod OrderLines
mod OrderFaults
