pub mod Decoding
pub mod Meaning
