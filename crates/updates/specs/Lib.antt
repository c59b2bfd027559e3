pub mod Looked
pub mod Updating
