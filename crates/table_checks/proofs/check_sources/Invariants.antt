-- `table_checks::check_sources` meets its contract, by the laws of a search. Assumes nothing.
use Rattle.refusals.specs.Tables.{bad_source}
use Rattle.refusals.proofs.Laws.{Passed}
use Rattle.table_checks.proofs.check_sources.Given as goal

abbrev pub invariant-loop-i : goal.invariant-loop-i
invariant-loop-i l = Passed 5 (bad_source l.kinds l.sources l.labels) l.n l.i
