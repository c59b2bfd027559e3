pub mod Rows
pub mod After
pub mod Meaning
pub mod Answers
