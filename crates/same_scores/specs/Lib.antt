pub mod Named
pub mod Agree
pub mod NoScore
