-- `shuffle::shuffle` meets its contract. The loop's invariant: what is left to do, done to what there is, gives what is promised. Assumes nothing.
use Prim.Native.Nat.{ℕ, ◌-◌}
use mathlib.Core.Path.{refl, sym, ap, ◌∙◌}
use native.Mathlib.Omega.{arith}
use Rattle.shuffle.specs.Shuffle.{chosen, shuffled}
use Rattle.shuffle.proofs.Laws.{chosen_within, from_next, from_end}
use Rattle.shuffle.proofs.shuffle.Goals as goal

pub loop-i-init : goal.loop-i-init
unfolding shuffled
loop-i-init c = (omega arith, refl)

pub swap-requires : goal.swap-requires
swap-requires c =
    omega (arith, c.choose-j.ensures, chosen_within c.draw_from-drawn.result.number (c.loop-i.i - 1))

pub loop-i-preserved : goal.loop-i-preserved
loop-i-preserved c = (
  omega arith,
  sym (from_next _ _ _ _ _ _ (omega arith) c.draw_from-drawn.ensures.1 (c.choose-j.ensures ∙ ap (λ (x : ℕ). chosen x (c.loop-i.i - 1)) c.draw_from-drawn.ensures.0) c.swap.ensures) ∙ c.loop-i.invariant.1,
)

pub returns : goal.returns
returns c = sym (from_end _ _ (omega arith)) ∙ c.loop-i.invariant.1
