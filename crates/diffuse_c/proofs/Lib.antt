mod Words
mod ArcsOut
mod FaultNumbers
mod LentArcs
mod Refusing
mod Values
mod PassedOn
