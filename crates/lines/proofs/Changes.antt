-- What holds of a change of a table, whatever it is, holds of a pass of such changes. Assumes nothing.
use mathlib.Core.Bool.{Bool, true, false, cond}
use mathlib.Core.Path.{◌≡◌, refl}
use mathlib.Core.List.{List}
use Prim.Native.Nat.{ℕ, zero, suc, ◌+◌, ◌<◌}
use native.Mathlib.Omega.{arith}
use lib.Ieee.{Float}
use Rattle.lines.specs.Passes.{through, through_list, start, size}

-- a property of changes that no change has, and two have one after the other where each has
pub record Closed (P : (List Float → List Float) → Type 0) : Type 1 where
  pub same : P (λ s. s)
  pub after : (f g : List Float → List Float) → P f → P g → P (λ s. g (f s))

module _ {P : (List Float → List Float) → Type 0} (closed : Closed P) where
  pub through_all : (step : ℕ → List Float → List Float) (first n : ℕ) → ((j : ℕ) → j < n → P (step (first + j))) → P (through step first n)
  unfolding through
  through_all step first zero h = closed.same
  through_all step first (suc n) h =
      closed.after (through step first n) (step (first + n)) (through_all step first n (λ j k. h j (omega arith))) (h n (omega arith))

  pub cond_all : (b : Bool) (f : List Float → List Float) → (b ≡ true → P f) → P (λ s. cond b (f s) s)
  cond_all true f h = h refl
  cond_all false f h = closed.same

  pub list_all : (step : ℕ → List Float → List Float) (starts : List ℕ) (a : ℕ) → ((e : ℕ) → e < start starts (a + 1) → P (step e)) → P (through_list step starts a)
  list_all step starts a h = through_all step (start starts a) (size starts a) (λ j k. h (start starts a + j) (omega arith))
