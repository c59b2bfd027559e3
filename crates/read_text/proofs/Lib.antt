pub mod Unique
pub mod Meant
pub mod Again
mod Figures
mod Ready
mod Kept
pub mod Sized
