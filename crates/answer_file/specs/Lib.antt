pub mod EveryFile
