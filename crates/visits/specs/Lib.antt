pub mod Visitable
