pub mod Parted
pub mod Unique
pub mod Meant
pub mod Kept
pub mod Demand3
mod Independent
