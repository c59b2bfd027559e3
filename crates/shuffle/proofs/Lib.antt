pub mod Laws
pub mod Permutes
