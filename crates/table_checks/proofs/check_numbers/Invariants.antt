-- `table_checks::check_numbers` meets its contract, by the laws of a search. Assumes nothing.
use Rattle.refusals.specs.Tables.{not_finite}
use Rattle.refusals.proofs.Laws.{Passed}
use Rattle.table_checks.proofs.check_numbers.Given as goal

abbrev pub invariant-loop-i : goal.invariant-loop-i
invariant-loop-i l = Passed 6 (not_finite l.numbers) l.n l.i
