pub mod Laws
pub mod ReadBack
pub mod Longest
pub mod OneSaying
