pub mod Rows
pub mod Promise
pub mod Meaning
pub mod Demand3
pub mod Independent
