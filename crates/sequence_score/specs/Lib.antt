pub mod Rows
pub mod Sound
pub mod Promise
pub mod Meaning
