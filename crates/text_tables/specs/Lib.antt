-- To read in this order: names by first appearance; the tables of a text; the pieces that a text is read in, and what a pass over them
-- counts and builds; what is written of tables, and that it reads back; how much a text of n bytes can need; desk cases.
pub mod Distinct
pub mod Tables
pub mod Pieces
pub mod Tally
pub mod Laid
pub mod Built
pub mod Written
pub mod RoundTrip
pub mod Tails
pub mod InText
pub mod Examples
