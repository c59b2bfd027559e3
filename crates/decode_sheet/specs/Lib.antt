pub mod Answer
pub mod Promise
pub mod Program
pub mod Front
pub mod Meaning
pub mod Best
