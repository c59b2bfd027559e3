-- The step by its variant. Assumes nothing.
use mathlib.Core.Path.{◌≡◌, refl}
use Prim.Native.Nat.{ℕ, zero, suc}
use lib.Ieee.{Float}
use Rattle.binary64.specs.Smaller.{smaller}
use Rattle.binary64.specs.Numbers.{whole}
use Rattle.training.specs.Rules.{step_of, ◌⊕◌, ◌⊗◌, ◌⊘◌}

module _ (variant : ℕ) (c cost norm : Float) where
  pub step_pa : variant ≡ 0 → cost ⊘ norm ≡ step_of variant c cost norm
  unfolding step_of
  step_pa e = rw e

  pub step_pa_i : {r : Float} → variant ≡ 1 → r ≡ smaller c (cost ⊘ norm) → r ≡ step_of variant c cost norm
  unfolding step_of
  step_pa_i e p = rw e p

pub step_pa_ii : (variant : ℕ) (c cost norm : Float) → (variant ≡ 0 → ⊥) → (variant ≡ 1 → ⊥) → cost ⊘ (norm ⊕ whole 1 ⊘ (whole 2 ⊗ c)) ≡ step_of variant c cost norm
unfolding step_of
step_pa_ii zero c cost norm a b = absurd (a refl)
step_pa_ii (suc zero) c cost norm a b = absurd (b refl)
step_pa_ii (suc (suc variant)) c cost norm a b = refl
