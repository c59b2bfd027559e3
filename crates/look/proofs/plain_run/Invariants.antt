-- `look::plain_run` meets its contract. Assumes nothing.
use Rattle.look.specs.Windows.{Passed}
use Rattle.look.proofs.plain_run.Given as goal

abbrev pub invariant-loop-i : goal.invariant-loop-i
invariant-loop-i l = Passed l.text l.at l.end l.i
