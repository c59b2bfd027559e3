pub mod Shuffle
pub mod Permutation
