pub mod Parts
mod Names
mod Fields
pub mod Made
pub mod Walk
mod Found
pub mod Bare
pub mod Spans
pub mod Passes
