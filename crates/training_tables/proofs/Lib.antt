pub mod Moves
pub mod Counted
pub mod Fronts
pub mod Rounded
