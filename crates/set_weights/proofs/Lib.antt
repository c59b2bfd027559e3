pub mod Front
pub mod Laws
pub mod Meant
pub mod Unique
