-- `last_largest` meets its contract. The loop's invariant: of the labels passed, the last with the largest score, and that score. Assumes nothing.
use mathlib.Core.Path.{refl, sym, ◌∙◌}
use Prim.Native.Nat.{◌-◌}
use native.Mathlib.Nat.{le_antisymm}
use native.Mathlib.Omega.{arith}
use Rattle.best_path.proofs.Laws.{largest_first, largest_within}
use Rattle.viterbi_steps.proofs.Choices.{score_more, from_more}
use Rattle.viterbi_end.specs.Rival.{score_at}
use Rattle.viterbi_end.proofs.last_largest.Goals as goal

pub loop-label-init : goal.loop-label-init
loop-label-init c = (simp largest_first, sym (largest_first _))

pub loop-label-preserved : goal.loop-label-preserved
loop-label-preserved c =
    let g = score_at c.args.row.now in (
      c.better-score.ensures ∙ score_more g c.loop-label.label c.loop-label.auto.label _ _ c.loop-label.last c.loop-label.invariant.0 refl,
      c.whence-last.ensures ∙ from_more g c.loop-label.label c.loop-label.auto.label _ _ _ c.loop-label.invariant.0 refl c.loop-label.invariant.1,
    )

pub returns : goal.returns
returns c =
    let a = c.args in
    let e = rw (le_antisymm (c.loop-label.auto.label-end c.requires.0) c.loop-label-test.false) at c.loop-label.invariant.1 in
    (omega (arith, e, largest_within (score_at a.row.now) (a.n - 1)), e)
