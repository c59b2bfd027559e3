pub mod Choices
pub mod Written
pub mod Laws
