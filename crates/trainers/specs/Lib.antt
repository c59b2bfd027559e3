pub mod Promise
pub mod Lent
pub mod SameAnswer
pub mod Meaning
