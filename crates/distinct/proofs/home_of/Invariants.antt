-- `distinct::home_of` meets its contract. Assumes nothing.
use Rattle.distinct.proofs.Loops.{Hashing}
use Rattle.distinct.proofs.home_of.Given as goal

abbrev pub invariant-loop-b : goal.invariant-loop-b
invariant-loop-b l = Hashing l.b-items l.h l.b-index
