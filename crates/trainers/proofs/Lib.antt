pub mod Unique
pub mod Trained
pub mod Fronts
pub mod SameAnswer
pub mod Meant
pub mod Keeping
pub mod Answered
