pub mod Trainers
pub mod Parameters
