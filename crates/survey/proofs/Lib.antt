mod Figured
pub mod Named
pub mod Pass
