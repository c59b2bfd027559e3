-- `finished::check_finished` meets its contract, by the laws of a search. Assumes nothing.
use Rattle.refusals.specs.Tables.{not_finite}
use Rattle.refusals.proofs.Laws.{Passed}
use Rattle.finished.proofs.check_finished.Given as goal

abbrev pub invariant-loop-i : goal.invariant-loop-i
invariant-loop-i l = Passed 8 (not_finite l.numbers) l.n l.i
