pub mod Laws
pub mod Meant
pub mod Unique
