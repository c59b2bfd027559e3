-- To read in this order: 11, of names and kept texts; the rows of the writer and their order; what it may rely on once nothing is
-- refused; desk cases.
pub mod Carry
pub mod Rows
pub mod Sound
pub mod Examples
