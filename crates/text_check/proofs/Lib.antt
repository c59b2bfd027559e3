pub mod Long
mod Needed
pub mod Tells
pub mod Meant
