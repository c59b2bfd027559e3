-- `sheet::check_part` meets its contract, by the laws of a search. Assumes nothing.
use lib.ListN.{drop}
use Rattle.refusals.specs.Tables.{not_finite}
use Rattle.refusals.proofs.Laws.{Passed}
use Rattle.sheet.specs.Fields.{numbers_in}
use Rattle.sheet.proofs.check_part.Given as goal

abbrev pub invariant-loop-i : goal.invariant-loop-i
invariant-loop-i l = Passed 6 (not_finite (numbers_in l.n (drop l.at l.bytes))) l.n l.i
