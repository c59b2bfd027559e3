-- To read in this order. The file: what a sheet says, and the bytes that say it; document 01's case P4, computed.
pub mod File
pub mod Examples
-- The same from the bytes' side: what stands where, and the rows of refusals in their order.
pub mod Fields
pub mod Rows
pub mod RowsMeaning
-- What `read_sheet` promises; that it reads exactly the files of sound sheets; each number exactly when.
pub mod Promise
pub mod Files
pub mod Meaning
-- What the inner functions make.
pub mod Steps
