-- The finite test of a table's front: what it tells, and how it goes on entry by entry, where a table is read, and where one or two
-- are stored to. Assumes nothing.
use mathlib.Core.Path.{◌≡◌, refl, sym, ◌∙◌}
use mathlib.Core.Bool.{Bool, true, false, ◌&&◌, true≢false, and-true, and_assoc}
use mathlib.Core.List.{List}
use mathlib.Core.Logic.{◌⊎◌, inl, inr}
use Prim.Native.Nat.{ℕ, zero, suc, ◌+◌, ◌≤◌, ◌<◌}
use native.Mathlib.Numerals.{add-one}
use native.Mathlib.Nat.{le_antisymm, le_refl, add-zero, add-suc, eq-or-lt_of_le, le_of_suc-le-suc, not-suc-le-zero}
use native.Mathlib.Omega.{arith}
use lib.Dec.{T}
use lib.ListN.{length, get_or, set, drop, get_or-append}
use lib.Seq.{get_or-set_same, get_or-set_other, get_or-drop}
use lib.Ieee.{Float, nan}
use lib.Ieee.Bits.{is_true}
use lib.Ieee.Scale.{finite}
use Rattle.fronts.specs.Finite.{FiniteTo, all_finite_of, TestMeans, TestsFront}

-- ---- the test tells that the front is finite, and no more is looked at
pub all_finite_at : (table : List Float) (n : ℕ) → all_finite_of table n ≡ true → FiniteTo table n
unfolding all_finite_of
all_finite_at table zero e i h = absurd (not-suc-le-zero h)
all_finite_at table (suc n) e i h = go (all_finite_of table n) (finite (get_or table n nan)) (all_finite_at table n) refl e (eq-or-lt_of_le (le_of_suc-le-suc h))
  where
    go : (a b : Bool) → (a ≡ true → (j : ℕ) → j < n → T (finite (get_or table j nan))) → finite (get_or table n nan) ≡ b → a && b ≡ true → (i ≡ n) ⊎ (i < n) → T (finite (get_or table i nan))
    go false b r f t c = absurd (true≢false (sym t))
    go true false r f t c = absurd (true≢false (sym t))
    go true true r f t (inl here) = rw (here, f) tt
    go true true r f t (inr before) = r refl i before

pub all_finite_if : (table : List Float) (n : ℕ) → FiniteTo table n → all_finite_of table n ≡ true
unfolding all_finite_of
all_finite_if table zero h = refl
all_finite_if table (suc n) h = rw (all_finite_if table n (λ i l. h i (omega arith)), is_true (finite (get_or table n nan)) (h n (omega arith)))

pub test_means : TestMeans
test_means table n = (all_finite_at table n, all_finite_if table n)

pub tests_front : TestsFront
unfolding all_finite_of
tests_front front rest zero h = refl
tests_front front rest (suc n) h = rw (tests_front front rest n (omega arith), get_or-append front rest nan n h)

-- ---- entry by entry
pub finite_none : (t : List Float) → true ≡ all_finite_of t 0
unfolding all_finite_of
finite_none t = refl

pub finite_more : (t : List Float) (i : ℕ) → all_finite_of t (i + 1) ≡ all_finite_of t i && finite (get_or t i nan)
unfolding all_finite_of
finite_more t i = rw add-one

pub finite_end : (t : List Float) (i n : ℕ) → i ≤ n → n ≤ i → all_finite_of t i ≡ all_finite_of t n
finite_end t i n p q = rw (le_antisymm p q)

-- a store at i or past it changes nothing in front of i
pub finite_kept : (t : List Float) (n i : ℕ) (x : Float) → n ≤ i → all_finite_of (set t i x) n ≡ all_finite_of t n
unfolding all_finite_of
finite_kept t zero i x h = refl
finite_kept t (suc n) i x h =
    let other : n ≡ i → ⊥ = λ e. omega arith in
    rw (finite_kept t n i x (omega arith), get_or-set_other t i n x nan other)

-- entry i is read
pub finite_read : (t : List Float) (i : ℕ) → all_finite_of t i && finite (get_or t i nan) ≡ all_finite_of t (i + 1)
finite_read t i = sym (finite_more t i)

-- x is stored there
pub finite_stored : (t : List Float) (i : ℕ) (x : Float) → i < length t → all_finite_of t i && finite x ≡ all_finite_of (set t i x) (i + 1)
finite_stored t i x h = sym (finite_more (set t i x) i ∙ rw (finite_kept t i i x (le_refl i), get_or-set_same t i x nan h))

-- a flag for the entries before i, and a test of entry i
pub flag_next : {all b x y z : Bool} → all ≡ x → b ≡ y → x && y ≡ z → all && b ≡ z
flag_next p q e = rw (p, q) e

-- the same for two tables under one flag
swap : (a b x y : Bool) → (a && b) && (x && y) ≡ (a && x) && (b && y)
swap false b x y = refl
swap true false false y = refl
swap true false true y = refl
swap true true x y = refl

pub flag_next_both : (a b x y : Bool) {all d z w : Bool} → all ≡ a && b → d ≡ x && y → a && x ≡ z → b && y ≡ w → all && d ≡ z && w
flag_next_both a b x y p q e f = rw (p, q, swap a b x y, e, f)

module _ (t u : List Float) where
  pub finite_none_both : true ≡ all_finite_of t 0 && all_finite_of u 0
  unfolding all_finite_of
  finite_none_both = refl

  pub finite_read_both : (i : ℕ) {all b : Bool} → all ≡ all_finite_of t i && all_finite_of u i → b ≡ finite (get_or t i nan) && finite (get_or u i nan) → all && b ≡ all_finite_of t (i + 1) && all_finite_of u (i + 1)
  finite_read_both i p q = flag_next_both (all_finite_of t i) (all_finite_of u i) (finite (get_or t i nan)) (finite (get_or u i nan)) p q (finite_read t i) (finite_read u i)

-- a front in two parts
parts : (t : List Float) (m n : ℕ) → all_finite_of t (m + n) ≡ all_finite_of t m && all_finite_of (drop m t) n
unfolding all_finite_of
parts t m zero = rw add-zero (sym (and-true (all_finite_of t m)))
parts t m (suc n) = rw (add-suc, parts t m n, get_or-drop m t n nan, and_assoc (all_finite_of t m) (all_finite_of (drop m t) n) (finite (get_or t (m + n) nan)))

-- both halves, passed together
module _ (t : List Float) (half : ℕ) where
  pub halves_next : (i : ℕ) {all b : Bool} → all ≡ all_finite_of t i && all_finite_of (drop half t) i → b ≡ finite (get_or t i nan) && finite (get_or t (half + i) nan) → all && b ≡ all_finite_of t (i + 1) && all_finite_of (drop half t) (i + 1)
  halves_next i p q = finite_read_both t (drop half t) i p (rw (get_or-drop half t i nan) q)

  pub halves_end : (i : ℕ) {all : Bool} → all ≡ all_finite_of t i && all_finite_of (drop half t) i → i ≤ half → half ≤ i → all ≡ all_finite_of t (half + half)
  halves_end i p h k = rw (le_antisymm h k) at p ∙ sym (parts t half half)

-- an odd last entry, or none
pub odd_end : (t : List Float) (even n : ℕ) {all b : Bool} → all ≡ all_finite_of t even → b ≡ finite (get_or t even nan) → even + 1 ≡ n → all && b ≡ all_finite_of t n
odd_end t even n p q e = rw (← e) (flag_next p q (finite_read t even))

pub even_end : (t : List Float) (even n : ℕ) {all : Bool} → all ≡ all_finite_of t even → even ≡ n → all ≡ all_finite_of t n
even_end t even n p e = rw (← e) p
