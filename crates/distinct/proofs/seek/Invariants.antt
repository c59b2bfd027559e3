-- `distinct::seek` meets its contract. Assumes nothing.
use Rattle.distinct.specs.Names.{name_at, names_at}
use Rattle.distinct.proofs.Loops.{Seeking}
use Rattle.distinct.proofs.seek.Given as goal

abbrev pub invariant-loop : goal.invariant-loop
invariant-loop l = Seeking l.size (names_at l.text l.positions l.count) l.slots (name_at l.text l.from) l.i l.counter
