-- To read in this order: tables that can be written from; how long the parts of a written text are.
pub mod Ready
pub mod Sums
