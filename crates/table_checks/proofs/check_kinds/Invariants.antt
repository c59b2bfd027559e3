-- `table_checks::check_kinds` meets its contract, by the laws of a search. Assumes nothing.
use Rattle.refusals.specs.Tables.{bad_kind}
use Rattle.refusals.proofs.Laws.{Passed}
use Rattle.table_checks.proofs.check_kinds.Given as goal

abbrev pub invariant-loop-i : goal.invariant-loop-i
invariant-loop-i l = Passed 5 (bad_kind l.kinds) l.n l.i
