pub mod SplitMix64
pub mod Draw
