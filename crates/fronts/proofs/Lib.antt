pub mod Finite
pub mod Filled
