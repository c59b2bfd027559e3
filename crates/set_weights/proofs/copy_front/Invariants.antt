-- `set_weights::copy_front` meets its contract: what is passed is the new table's, what is left the old one's. Assumes nothing.
use Rattle.set_weights.proofs.Front.{Filled}
use Rattle.set_weights.proofs.copy_front.Given as goal

abbrev pub invariant-loop-i : goal.invariant-loop-i
invariant-loop-i l = Filled l.n l.new l.initial.weights l.weights l.i
