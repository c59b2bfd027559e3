pub mod Folds
pub mod Same
pub mod NoScore
