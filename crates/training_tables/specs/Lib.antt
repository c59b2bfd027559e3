pub mod Tables
pub mod Fronts
