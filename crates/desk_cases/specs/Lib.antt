pub mod Cases
pub mod Answered
