-- `table_checks::all_below` meets its contract: while the flag holds, no place so far is refused. Assumes nothing.
use Rattle.refusals.specs.Tables.{not_below}
use Rattle.table_checks.proofs.Passing.{Passing}
use Rattle.table_checks.proofs.all_below.Given as goal

abbrev pub invariant-loop-i : goal.invariant-loop-i
invariant-loop-i l = Passing 5 (not_below l.ids l.bound) l.n l.all l.i
