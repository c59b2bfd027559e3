-- To read in this order. How many labels are wrong; the three rules; one visit; epochs and the result; how an answer is said.
pub mod Wrong
pub mod Rules
pub mod Visits
pub mod Epochs
pub mod Said
-- What is claimed of them: that the order permutes, that the counter is whole, how a visit ends, what an accepted training gives.
pub mod Orders
pub mod Counter
pub mod OneVisit
pub mod Accepted
-- When and where 8 and 9 are given, in plain terms: of one visit, then over all visits.
pub mod Reasons
pub mod Reached
-- What finite weights and whole values tell of the counts: for the code and the curious.
pub mod WholeCounts
pub mod FiniteCounts
