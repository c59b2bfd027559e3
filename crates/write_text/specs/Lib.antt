-- To read in this order: what the writer promises; when it refuses, in plain terms; what its texts are.
pub mod Promise
pub mod Meaning
pub mod Carries
pub mod Accepts
