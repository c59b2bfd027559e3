-- `table_checks::check_ids` meets its contract, by the laws of a search. Assumes nothing.
use Rattle.refusals.specs.Tables.{not_below}
use Rattle.refusals.proofs.Laws.{Passed}
use Rattle.table_checks.proofs.check_ids.Given as goal

abbrev pub invariant-loop-i : goal.invariant-loop-i
invariant-loop-i l = Passed 5 (not_below l.ids l.bound) l.n l.i
