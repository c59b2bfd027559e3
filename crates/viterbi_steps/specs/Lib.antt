pub mod Chosen
pub mod Written
pub mod Rows
