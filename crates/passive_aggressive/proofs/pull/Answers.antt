-- `passive_aggressive::pull` meets its contract: the loop is a pass of `pulled`, and the flag the finite test of what it left. Assumes nothing.
use mathlib.Core.List.{List}
use mathlib.Core.Path.{◌≡◌, sym, ap, ◌∙◌}
use native.Mathlib.Nat.{le_refl}
use borrow.Author.Rules.{rules}
use lib.Ieee.{Float}
use Rattle.lines.specs.Passes.{raised}
use Rattle.fronts.specs.Finite.{all_finite_of}
use Rattle.training.specs.Rules.{pulled}
use Rattle.fronts.proofs.Finite.{finite_stored, finite_read, finite_kept}
use Rattle.training_tables.proofs.Moves.{moved_none, moved_next}
use Rattle.passive_aggressive.proofs.pull.Goals.{then-averaging, else-averaging}
use Rattle.passive_aggressive.proofs.pull.Goals as goal

pub loop-i-init : goal.loop-i-init
loop-i-init c = moved_none _ _

pub loop-i-preserved : goal.loop-i-preserved
unfolding pulled raised
loop-i-preserved c =
    let i = c.loop-i.i in
    let same_front : all_finite_of c.if-averaging.sums i ≡ all_finite_of c.loop-i.sums i = elim c.if-averaging.branch [
      | then-averaging w ↦ ap (λ (s : List Float). all_finite_of s i) w.sums-is ∙ finite_kept _ _ _ _ (le_refl i)
      | else-averaging w ↦ ap (λ (s : List Float). all_finite_of s i) w.sums-is
    ] in
    moved_next _ _ _ _ _ c.loop-i.invariant
    (elim c.if-averaging.branch [
      | then-averaging w ↦ rw (w.sums-is, w.if-averaging.true)
      | else-averaging w ↦ rw (w.sums-is, w.if-averaging.false)
    ])
    c.are_finite-all.ensures
    (finite_stored _ _ _ (search rules))
    (rw (sym same_front) (finite_read _ _))
