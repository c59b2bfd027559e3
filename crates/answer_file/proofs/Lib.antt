pub mod EveryFile
pub mod Streams
