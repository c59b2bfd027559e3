pub mod Limits
pub mod Tests
pub mod Parts
pub mod Given
