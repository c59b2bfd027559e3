-- `table_checks::check_starts` meets its contract, by the laws of a search. Assumes nothing.
use Rattle.std.proofs.Common.{◌≡◌, ◌+◌}
use Rattle.refusals.specs.Tables.{bad_start, start_before}
use Rattle.refusals.proofs.Laws.{Passed}
use Rattle.table_checks.proofs.check_starts.Given as goal

abbrev pub invariant-loop-i : goal.invariant-loop-i
invariant-loop-i l = Passed 3 (bad_start l.starts l.n l.entries) (l.n + 1) l.i × (l.low ≡ start_before l.starts l.i)
