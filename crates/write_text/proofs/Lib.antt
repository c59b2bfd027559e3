pub mod Kept
pub mod Unique
pub mod Elevens
pub mod Meant
pub mod Carries
pub mod Accepts
