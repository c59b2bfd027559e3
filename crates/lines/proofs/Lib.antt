pub mod Laws
pub mod Literals
pub mod Spans
pub mod Changes
pub mod Reached
pub mod Fronts
