-- `finished::check_finished` meets its contract, by the laws of a search. Assumes nothing.
use mathlib.Core.Path.{ap, sym, ◌∙◌}
use mathlib.Core.Bool.{not}
use native.Mathlib.Omega.{arith}
use Rattle.refusals.proofs.Laws.{begin, step, ends}
use Rattle.finished.proofs.Laws.{test_accepts, placed_accepted, placed_hits}
use Rattle.finished.proofs.check_finished.Goals as goal

pub returns-then-all_finite : goal.returns-then-all_finite
returns-then-all_finite c = placed_accepted _ ((test_accepts _ _).1 (sym c.all_finite.ensures ∙ c.if-all_finite.true))

pub loop-i-init : goal.loop-i-init
loop-i-init c = begin

pub returns-then-bad : goal.returns-then-bad
returns-then-bad c = placed_hits _ c.loop-i.invariant (omega arith) (ap not (sym c.is_finite-bad.ensures ∙ c.if-bad.true)) c.refused.ensures

pub loop-i-preserved : goal.loop-i-preserved
loop-i-preserved c = step c.loop-i.invariant (omega arith) (ap not (sym c.is_finite-bad.ensures ∙ c.if-bad.false))

pub returns : goal.returns
returns c = placed_accepted _ (sym (ends c.loop-i.invariant (omega arith)))
