pub mod Lent
pub mod Rows
pub mod CheckModel
pub mod Sound
pub mod Meaning
pub mod Parts
