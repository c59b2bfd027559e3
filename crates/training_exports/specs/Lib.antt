pub mod Trains
pub mod Meaning
