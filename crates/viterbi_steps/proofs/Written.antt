-- The laws of `written`: a turn of a loop that writes, what is read back inside and outside of the part, and that the last writing counts. Assumes nothing.
use mathlib.Core.Path.{◌≡◌, refl, ◌∙◌}
use mathlib.Core.List.{List}
use Prim.Native.Nat.{ℕ, zero, suc, ◌+◌, ◌≤◌, ◌<◌}
use native.Mathlib.Nat.{le_antisymm, zero-add}
use native.Mathlib.Numerals.{add-one}
use native.Mathlib.Omega.{arith}
use borrow.Author.Count.{below_more}
use lib.ListN.{length, get_or, set, length-set}
use lib.Seq.{get_or-set_same, get_or-set_other, set-set, set_comm}
use Rattle.viterbi_steps.specs.Written.{written}

module _ {A : Type 0} (at : ℕ) (value : ℕ → A) (buffer : List A) where
  -- ---- a loop that writes
  pub written_none : buffer ≡ written at value 0 buffer
  unfolding written
  written_none = refl

  pub written_more : (i : ℕ) (now : List A) (v : A) → now ≡ written at value i buffer → v ≡ value i → set now (at + i) v ≡ written at value (i + 1) buffer
  unfolding written
  written_more i now v e q = rw (add-one i, e, q)

  pub written_end : (i n : ℕ) (now : List A) → i ≤ n → n ≤ i → now ≡ written at value i buffer → now ≡ written at value n buffer
  written_end i n now p q e = rw (le_antisymm p q) at e

  -- ---- what is read back
  pub written_length : (n : ℕ) → length (written at value n buffer) ≡ length buffer
  unfolding written
  written_length zero = refl
  written_length (suc n) = simp length-set (written_length n)

  pub written_outside : (d : A) (place n : ℕ) → ((k : ℕ) → k < n → place ≡ at + k → ⊥) → get_or (written at value n buffer) place d ≡ get_or buffer place d
  unfolding written
  written_outside d place zero apart = refl
  written_outside d place (suc n) apart =
      get_or-set_other (written at value n buffer) (at + n) place (value n) d (apart n (omega arith))
      ∙ written_outside d place n (λ k h. apart k (omega arith))

  pub written_inside : (d : A) (n : ℕ) → at + n ≤ length buffer → (k : ℕ) → k < n → get_or (written at value n buffer) (at + k) d ≡ value k
  unfolding written
  written_inside d zero room k h = absurd (omega arith)
  written_inside d (suc n) room k h =
      below_more (λ j. get_or (set (written at value n buffer) (at + n) (value n)) (at + j) d ≡ value j) n
      (λ j l. get_or-set_other (written at value n buffer) (at + n) (at + j) (value n) d (λ e. omega arith) ∙ written_inside d n (omega arith) j l)
      (get_or-set_same (written at value n buffer) (at + n) (value n) d (rw (written_length n) (omega arith)))
      k
      (rw (add-one n) h)

-- the same at the front of a buffer
pub front_more : {A : Type 0} (value : ℕ → A) (buffer : List A) (i : ℕ) (now : List A) (v : A) → now ≡ written 0 value i buffer → v ≡ value i → set now i v ≡ written 0 value (i + 1) buffer
front_more value buffer i now v e q = rw zero-add at (written_more 0 value buffer i now v e q)

pub front_inside : {A : Type 0} (value : ℕ → A) (buffer : List A) (d : A) (n : ℕ) → n ≤ length buffer → (k : ℕ) → k < n → get_or (written 0 value n buffer) k d ≡ value k
front_inside value buffer d n room k h = rw zero-add at (written_inside 0 value buffer d n (rw zero-add room) k h)

-- what is not written yet
pub front_later : {A : Type 0} (value : ℕ → A) (buffer : List A) (d : A) (i : ℕ) (now : List A) → now ≡ written 0 value i buffer → get_or now i d ≡ get_or buffer i d
front_later value buffer d i now e = rw e (written_outside 0 value buffer d i i (λ k h q. omega arith))

-- ---- values that are equal, and values that are written over
pub written_same : {A : Type 0} (at : ℕ) (f g : ℕ → A) (buffer : List A) (n : ℕ) → ((k : ℕ) → k < n → f k ≡ g k) → written at f n buffer ≡ written at g n buffer
unfolding written
written_same at f g buffer zero e = refl
written_same at f g buffer (suc n) e = let h : n < suc n = omega arith in rw (written_same at f g buffer n (λ k l. e k (omega arith)), e n h)

written_set : {A : Type 0} (at : ℕ) (g : ℕ → A) (buffer : List A) (place : ℕ) (v : A) (n : ℕ) → at + n ≤ place → written at g n (set buffer place v) ≡ set (written at g n buffer) place v
unfolding written
written_set at g buffer place v zero h = refl
written_set at g buffer place v (suc n) h = rw (written_set at g buffer place v n (omega arith)) (set_comm (written at g n buffer) place (at + n) v (g n) (λ e. omega arith))

pub written_over : {A : Type 0} (at : ℕ) (f g : ℕ → A) (buffer : List A) (n : ℕ) → written at g n (written at f n buffer) ≡ written at g n buffer
unfolding written
written_over at f g buffer zero = refl
written_over at f g buffer (suc n) = let h : at + n ≤ at + n = omega arith in rw (written_set at g (written at f n buffer) (at + n) (f n) n h, set-set, written_over at f g buffer n)
