-- `table_checks::all_kinds` meets its contract: while the flag holds, no place so far is refused. Assumes nothing.
use Rattle.refusals.specs.Tables.{bad_kind}
use Rattle.table_checks.proofs.Passing.{Passing}
use Rattle.table_checks.proofs.all_kinds.Given as goal

abbrev pub invariant-loop-i : goal.invariant-loop-i
invariant-loop-i l = Passing 5 (bad_kind l.kinds) l.n l.all l.i
