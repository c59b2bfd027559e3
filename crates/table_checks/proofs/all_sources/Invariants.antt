-- `table_checks::all_sources` meets its contract: while the flag holds, no place so far is refused. Assumes nothing.
use Rattle.refusals.specs.Tables.{bad_source}
use Rattle.table_checks.proofs.Passing.{Passing}
use Rattle.table_checks.proofs.all_sources.Given as goal

abbrev pub invariant-loop-i : goal.invariant-loop-i
invariant-loop-i l = Passing 5 (bad_source l.kinds l.sources l.labels) l.n l.all l.i
