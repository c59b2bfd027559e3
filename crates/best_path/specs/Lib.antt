-- To read in this order. First what scores and paths are and how a path's sum is rounded; then what decoding gives.
pub mod Scores
pub mod Decoded
pub mod Lead
-- The score of a given path, which is added up in another order.
pub mod PathScore
-- Demand 3: what "best" means, with no word of how it is found; then that decoding gives it, and that nothing else is best.
pub mod BestPath
pub mod Demand3
-- What is not claimed, with the case that refutes it; and what the rival of a lead stands for.
pub mod NotLastOfAll
pub mod LargestOther
