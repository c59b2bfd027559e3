mod Middle
mod Nearest
mod Each
mod Patterns
pub mod Laws
