-- `training_check::check_lengths` meets its contract, by the laws of a search. Assumes nothing.
use Rattle.refusals.proofs.Laws.{Passed}
use Rattle.refusal_rows.specs.Tests.{bad_length}
use Rattle.training_check.proofs.check_lengths.Given as goal

abbrev pub invariant-loop-i : goal.invariant-loop-i
invariant-loop-i l = Passed 4 (bad_length l.lines) l.n l.i
