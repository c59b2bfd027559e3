pub mod Walked
pub mod Rival
pub mod Ends
