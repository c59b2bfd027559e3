-- The update put together from its parts. Assumes nothing.
use mathlib.Core.Path.{◌≡◌}
use mathlib.Core.Bool.{Bool, cond}
use Prim.Native.Nat.{ℕ}
use lib.Ieee.{Float, lt}
use Rattle.roots.specs.Root.{nearest_root}
use Rattle.lines.specs.Passes.{through}
use Rattle.binary64.specs.Numbers.{nought, whole}
use Rattle.training.specs.Rules.{Learned, Mistake, Update, squared, step_of, pulled, passive, by_passive, updated_by, ◌⊕◌, ◌⊖◌, ◌⊗◌}

-- the update, put together from its cost, norm, step and tables
pub by_passive_lem : (variant : ℕ) (c : Float) (sensitive averaging : Bool) (features : ℕ) (k : Mistake) (before : Learned) {after : Learned} {cost norm tau : Float}
    → cost ≡ (k.predicted_score ⊖ k.true_score) ⊕ cond sensitive (nearest_root k.wrong) (whole 1)
    → norm ≡ through (squared k.truly k.predicted) 0 features nought
    → tau ≡ cond (lt nought norm) (step_of variant c cost norm) nought
    → after ≡ through (pulled k.truly k.predicted averaging (tau ⊗ k.weight) k.counter) 0 features before
    → ◌≡◌ {A = Update} (record { learned = after; loss = cost ⊗ k.weight }) (updated_by (passive variant c sensitive averaging) features k before)
unfolding updated_by by_passive
by_passive_lem variant c sensitive averaging features k before is_cost is_norm is_tau is_after = rw (is_after, is_tau, is_norm, is_cost)
