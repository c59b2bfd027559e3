pub mod Rows
pub mod Sound
pub mod Meaning
pub mod Examples
pub mod Parts
