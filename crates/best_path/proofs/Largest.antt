-- The last of the largest: `lastLargest g n` is one of 0 to n, nothing as large comes after it, and nothing is above it. It reads g at 0 to n only. Assumes nothing.
use mathlib.Core.Path.{◌≡◌, refl, ap, ◌∙◌}
use mathlib.Core.Logic.{◌⊎◌, inl, inr}
use mathlib.Core.Bool.{Bool, true, false, not, cond}
use Prim.Native.Nat.{ℕ, zero, suc, ◌≤◌, zero-le}
use native.Mathlib.Nat.{eq-or-lt_of_le, le_of_suc-le-suc}
use native.Mathlib.Nat as N
use native.Mathlib.Omega.{arith}
use lib.Dec.{T, T_not}
use lib.Ieee.{Float, le}
use Rattle.binary64.specs.Order.{is_number}
use Rattle.binary64.proofs.Order.{le_refl, le_trans, le_total}
use Rattle.best_path.specs.Decoded.{last_largest}

-- the newest candidate takes the place of the last of the largest before it, unless it is smaller
newest_taken : (g : ℕ → Float) (n : ℕ) →
    ((last_largest g (suc n) ≡ suc n) × T (le (g (last_largest g n)) (g (suc n)))) ⊎ ((last_largest g (suc n) ≡ last_largest g n) × T (not (le (g (last_largest g n)) (g (suc n)))))
unfolding last_largest
newest_taken g n = go (le (g (last_largest g n)) (g (suc n)))
  where
    go : (b : Bool) → ((cond b (suc n) (last_largest g n) ≡ suc n) × T b) ⊎ ((cond b (suc n) (last_largest g n) ≡ last_largest g n) × T (not b))
    go true = inl (refl, tt)
    go false = inr (refl, tt)

-- of 0 to n + 1, k is the newest or one of those before it
pub newest : (k n : ℕ) → k ≤ suc n → (k ≡ suc n) ⊎ (k ≤ n)
newest k n h = elim (eq-or-lt_of_le h) [ inl e ↦ inl e | inr l ↦ inr (le_of_suc-le-suc l) ]

pub largest_within : (g : ℕ → Float) (n : ℕ) → last_largest g n ≤ n
largest_within g zero = unfold last_largest in zero-le
largest_within g (suc n) = elim (newest_taken g n) [ inl w ↦ omega arith | inr w ↦ omega (arith, largest_within g n) ]

-- nothing as large comes after it
pub largest_none_after : (g : ℕ → Float) (n k : ℕ) → k ≤ n → T (le (g (last_largest g n)) (g k)) → k ≤ last_largest g n
largest_none_after g zero k h t = omega arith
largest_none_after g (suc n) k h t = elim (newest_taken g n) [
  | inl w ↦ omega arith
  | inr w ↦
      let before : T (le (g (last_largest g n)) (g k)) = rw w.0 at t in
      rw w.0 (elim (newest k n h) [ inl e ↦ absurd (T_not (le (g (last_largest g n)) (g (suc n))) w.1 (rw e at before)) | inr l ↦ largest_none_after g n k l before ])
]

-- nothing is above it, where g has numbers only
abbrev pub Numbers : (ℕ → Float) → ℕ → Type 0
Numbers g n = (k : ℕ) → k ≤ n → T (is_number (g k))

other_way : (x y : Float) → T (is_number x) → T (is_number y) → T (not (le x y)) → T (le y x)
other_way x y p q h = elim (le_total x y p q) [ inl k ↦ absurd (T_not (le x y) h k) | inr k ↦ k ]

pub largest_none_above : (g : ℕ → Float) (n : ℕ) → Numbers g n → (k : ℕ) → k ≤ n → T (le (g k) (g (last_largest g n)))
largest_none_above g zero num k h = let e : k ≡ 0 = omega arith in rw e (unfold last_largest in le_refl (g 0) (num 0 zero-le))
largest_none_above g (suc n) num k h =
    let a = last_largest g n in
    let new : T (is_number (g (suc n))) = num (suc n) (N.le_refl (suc n)) in
    let fewer : Numbers g n = λ i l. num i (N.le_trans l (N.le-suc n)) in
    elim (newest_taken g n) [
      | inl w ↦ rw w.0 (elim (newest k n h) [ inl e ↦ rw e (le_refl (g (suc n)) new) | inr l ↦ le_trans (g k) (g a) (g (suc n)) (largest_none_above g n fewer k l) w.1 ])
      | inr w ↦ rw w.0 (elim (newest k n h) [ inl e ↦ rw e (other_way (g a) (g (suc n)) (fewer a (largest_within g n)) new w.1) | inr l ↦ largest_none_above g n fewer k l ])
    ]

-- values that agree at 0 to n have the same
pub largest_same : (g h : ℕ → Float) (n : ℕ) → ((k : ℕ) → k ≤ n → g k ≡ h k) → last_largest g n ≡ last_largest h n
unfolding last_largest
largest_same g h zero e = refl
largest_same g h (suc n) e =
    let i : last_largest g n ≡ last_largest h n = largest_same g h n (λ k l. e k (N.le_trans l (N.le-suc n))) in
    let a : g (last_largest g n) ≡ h (last_largest h n) = e (last_largest g n) (N.le_trans (largest_within g n) (N.le-suc n)) ∙ ap h i in
    rw (a, e (suc n) (N.le_refl (suc n)), i)
