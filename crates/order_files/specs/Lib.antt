pub mod OrderFiles
pub mod OrderTakes
pub mod WrittenOrders
