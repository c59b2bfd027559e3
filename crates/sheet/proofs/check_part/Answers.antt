-- `sheet::check_part` meets its contract, by the laws of a search. Assumes nothing.
use mathlib.Core.Path.{◌∙◌, sym, ap}
use mathlib.Core.Bool.{not}
use native.Mathlib.Omega.{arith}
use Prim.Native.Nat.{◌<◌}
use Rattle.refusals.proofs.Laws.{begin, step, hit, ends}
use Rattle.sheet.proofs.Bytes.{tested}
use Rattle.sheet.proofs.check_part.Goals as goal

pub loop-i-init : goal.loop-i-init
loop-i-init c = begin

pub returns-then-not-is_finite_pattern : goal.returns-then-not-is_finite_pattern
returns-then-not-is_finite_pattern c =
    let h : c.loop-i.i < c.args.n = omega arith in
    c.refused.ensures ∙ sym (hit 6 _ _ _ h c.loop-i.invariant.accepted (tested _ _ _ _ h c.word_at.ensures c.is_finite_pattern.ensures ∙ ap not c.if-not-is_finite_pattern.true))

pub loop-i-preserved : goal.loop-i-preserved
loop-i-preserved c =
    let h : c.loop-i.i < c.args.n = omega arith in
    step c.loop-i.invariant h (tested _ _ _ _ h c.word_at.ensures c.is_finite_pattern.ensures ∙ ap not c.if-not-is_finite_pattern.false)

pub returns : goal.returns
returns c = ends c.loop-i.invariant (omega arith)
