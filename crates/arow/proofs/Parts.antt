-- AROW's update, put together from its cost, its divisor and its tables. Assumes nothing.
use mathlib.Core.Path.{◌≡◌}
use Prim.Native.Nat.{ℕ}
use lib.Ieee.{Float}
use Rattle.lines.specs.Passes.{through}
use Rattle.binary64.specs.Numbers.{whole}
use Rattle.training.specs.Rules.{Learned, Mistake, Update, spread, narrowed, arow, by_arow, updated_by, ◌⊕◌, ◌⊖◌, ◌⊗◌, ◌⊘◌}

pub by_arow_lem : (variance gamma : Float) (features : ℕ) (k : Mistake) (before : Learned) {after : Learned} {cost frac : Float}
    → cost ≡ (k.predicted_score ⊖ k.true_score) ⊕ whole k.wrong
    → frac ≡ through (spread k.truly k.predicted k.weight before.beside) 0 features gamma
    → after ≡ through (narrowed k.truly k.predicted k.weight gamma (cost ⊘ frac)) 0 features before
    → ◌≡◌ {A = Update} (record { learned = after; loss = cost ⊗ k.weight }) (updated_by (arow variance gamma) features k before)
unfolding updated_by by_arow
by_arow_lem variance gamma features k before is_cost is_frac is_after = rw (is_after, is_frac, is_cost)
