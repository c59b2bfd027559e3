-- The perceptron's update, put together from its tables and its loss. Assumes nothing.
use mathlib.Core.Path.{◌≡◌}
use Prim.Native.Nat.{ℕ}
use lib.Ieee.{Float}
use Rattle.lines.specs.Passes.{through}
use Rattle.binary64.specs.Numbers.{whole}
use Rattle.training.specs.Rules.{Learned, Mistake, Update, pushed, perceptron, by_perceptron, updated_by, ◌⊗◌, ◌⊘◌}

pub by_perceptron_lem : (features : ℕ) (k : Mistake) (before : Learned) {after : Learned} {loss : Float}
    → after ≡ through (pushed k.truly k.predicted k.weight k.counter) 0 features before
    → loss ≡ (whole k.wrong ⊘ whole k.words) ⊗ k.weight
    → ◌≡◌ {A = Update} (record { learned = after; loss = loss }) (updated_by perceptron features k before)
unfolding updated_by by_perceptron
by_perceptron_lem features k before is_after is_loss = rw (is_after, is_loss)
