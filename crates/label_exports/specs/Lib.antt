pub mod Labels
pub mod Meaning
