pub mod Rows
pub mod Answered
pub mod Promise
pub mod Meaning
pub mod Demand3
