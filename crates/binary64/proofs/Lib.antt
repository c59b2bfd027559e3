pub mod Signed
pub mod Order
pub mod Sums
pub mod Finite
mod Itself
pub mod Gap
pub mod Units
