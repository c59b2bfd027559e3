-- `scales::value_of` meets its contract. Assumes nothing.
use Rattle.scales.proofs.Gathered.{Gathering}
use Rattle.scales.proofs.value_of.Given as goal

abbrev pub invariant-loop-b : goal.invariant-loop-b
invariant-loop-b l = Gathering l.text l.a l.b-index
