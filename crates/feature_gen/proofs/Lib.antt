pub mod Laws
pub mod Sound
pub mod Meant
pub mod Unique
