-- The numbers from one on, so many of them: the order at the start. Assumes nothing.
use mathlib.Core.Path.{◌≡◌, refl, ap, ◌∙◌}
use Prim.Native.Nat.{ℕ, zero, suc, ◌+◌, ◌<◌}
use native.Mathlib.Omega.{arith}
use lib.ListN.{length, get_or}
use Rattle.training.specs.Epochs.{counted_from}

pub length_counted : (k n : ℕ) → length (counted_from k n) ≡ n
unfolding counted_from
length_counted k zero = refl
length_counted k (suc n) = ap suc (length_counted (suc k) n)

pub get_d_counted : (k n i : ℕ) → i < n → get_or (counted_from k n) i 0 ≡ k + i
unfolding counted_from
get_d_counted k zero i h = omega arith
get_d_counted k (suc n) zero h = omega arith
get_d_counted k (suc n) (suc i) h = get_d_counted (suc k) n i (omega arith) ∙ omega arith
