pub mod Same
mod First
pub mod Filing
pub mod Raw
pub mod Escaped
pub mod Loops
pub mod Learning
pub mod Plain
