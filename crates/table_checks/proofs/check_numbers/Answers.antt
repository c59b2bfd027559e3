-- `table_checks::check_numbers` meets its contract, by the laws of a search. Assumes nothing.
use Rattle.std.proofs.Common.{arith, sym, ◌∙◌}
use mathlib.Core.Bool.{not}
use mathlib.Core.Path.{ap}
use Rattle.refusals.proofs.Laws.{begin, step, hits, ends}
use Rattle.table_checks.proofs.Passing.{finite_passed}
use Rattle.table_checks.proofs.check_numbers.Goals as goal

pub returns-then-all_finite : goal.returns-then-all_finite
returns-then-all_finite c = sym (finite_passed _ _ (sym c.all_finite.ensures ∙ c.if-all_finite.true))

pub loop-i-init : goal.loop-i-init
loop-i-init c = begin

pub returns-then-bad : goal.returns-then-bad
returns-then-bad c = hits c.loop-i.invariant (omega arith) (ap not (sym c.is_finite-bad.ensures ∙ c.if-bad.true)) c.refused.ensures

pub loop-i-preserved : goal.loop-i-preserved
loop-i-preserved c = step c.loop-i.invariant (omega arith) (ap not (sym c.is_finite-bad.ensures ∙ c.if-bad.false))

pub returns : goal.returns
returns c = ends c.loop-i.invariant (omega arith)
