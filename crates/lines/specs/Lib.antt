-- To read in this order. First the one pass that everything is made of, and the tables of a model and its lines.
pub mod Passes
pub mod Tables
pub mod Data
-- Scores and feature counts, in the sentences of document 01; the examples compute them on one small model.
pub mod Scored
pub mod Counted
pub mod Examples
-- What code relies on and how it reads the tables: not needed to believe the definitions.
pub mod Sound
pub mod Spans
pub mod Lent
pub mod Entry
