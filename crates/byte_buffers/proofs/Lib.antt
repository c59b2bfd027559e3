pub mod Laws
pub mod Onto
