pub mod Numbers
pub mod Given
