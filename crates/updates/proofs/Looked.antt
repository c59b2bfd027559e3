-- What a visit found before it learned tells of the scores and of the labels. Assumes nothing.
use Rattle.std.specs.Prelude.{Some, None}
use mathlib.Core.Path.{◌≡◌, refl, sym}
use mathlib.Core.Bool.{Bool, true, false}
use mathlib.Core.Logic.{◌⊎◌, inl, inr}
use Prim.Native.Nat.{ℕ}
use native.Mathlib.Omega.{arith}
use Rattle.training.specs.declared.Progress.{Progress}
use Rattle.training.specs.Visits.{TrainingState, refused_as, unchanged}
use Rattle.updates.specs.Looked.{looked}

pub never : {r : Progress} → Some r ≡ None → ⊥
never e = let z : ◌≡◌ {A = ℕ} 0 1 = cc in omega arith

pub same_step : {r t : Progress} → Some t ≡ Some r → r ≡ t
same_step e = cc

module _ (s : TrainingState) where
  -- each way through the two tests
  pub not_scored : (scored agree : Bool) → scored ≡ false → {r : Progress} → r ≡ (refused_as 8 s).progress → Some r ≡ looked scored agree s
  unfolding looked
  not_scored scored agree e p = rw (e, p)

  pub agreeing : (scored agree : Bool) → scored ≡ true → agree ≡ true → {r : Progress} → r ≡ (unchanged s).progress → Some r ≡ looked scored agree s
  unfolding looked
  agreeing scored agree e d p = rw (e, d, p)

  pub differing : (scored agree : Bool) → scored ≡ true → agree ≡ false → None ≡ looked scored agree s
  unfolding looked
  differing scored agree e d = rw (e, d)

  -- it ends there: 8 for the scores, or the labels agree
  pub ended : (scored agree : Bool) {r : Progress} → looked scored agree s ≡ Some r → ((scored ≡ false) × (r ≡ (refused_as 8 s).progress)) ⊎ ((scored ≡ true) × (agree ≡ true) × (r ≡ (unchanged s).progress))
  unfolding looked
  ended false agree e = inl (refl, same_step e)
  ended true true e = inr (refl, refl, same_step e)
  ended true false e = absurd (never (sym e))

  -- labels differ
  pub differs : (scored agree : Bool) → looked scored agree s ≡ None → (scored ≡ true) × (agree ≡ false)
  unfolding looked
  differs false agree e = absurd (never e)
  differs true true e = absurd (never e)
  differs true false e = (refl, refl)
