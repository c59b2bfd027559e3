pub mod Numbers
pub mod Order
pub mod Smaller
pub mod Units
