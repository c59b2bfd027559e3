pub mod Finite
pub mod Cleared
