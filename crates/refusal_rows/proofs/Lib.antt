pub mod Means
pub mod Parts
pub mod Groups
pub mod TableGroups
