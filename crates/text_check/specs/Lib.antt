-- To read in this order: the rows of the reader; when each number is given, in plain terms; what a survey tells of a text's
-- sequences; desk cases.
pub mod Rows
pub mod Meaning
pub mod Told
pub mod Examples
