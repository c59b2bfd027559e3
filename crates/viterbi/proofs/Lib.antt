mod Room
pub mod Laws
pub mod Kept
pub mod Unique
pub mod Meant
pub mod Demand3
