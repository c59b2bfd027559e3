-- `distinct::label_id` meets its contract. Assumes nothing.
use Rattle.distinct.specs.Names.{name_at, names_at}
use Rattle.distinct.proofs.Loops.{Comparing}
use Rattle.distinct.proofs.label_id.Given as goal

abbrev pub invariant-loop-i : goal.invariant-loop-i
invariant-loop-i l = Comparing (names_at l.text l.positions l.count) (name_at l.text l.from) l.i
