pub mod SetWeights
pub mod Meaning
