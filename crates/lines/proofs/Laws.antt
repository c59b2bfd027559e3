-- Laws of a pass over a range, for the loops that make one. Assumes nothing.
use mathlib.Core.Path.{◌≡◌, refl, sym, ap, ◌∙◌}
use mathlib.Core.List.{List}
use Prim.Native.Nat.{ℕ, zero, suc, ◌+◌, ◌-◌, ◌≤◌, ◌<◌}
use native.Mathlib.Numerals.{add-one}
use native.Mathlib.Nat.{le_antisymm, zero-add}
use native.Mathlib.Omega.{arith}
use lib.ListN.{get_or}
use Rattle.lines.specs.Passes.{through, through_list}

module _ {S : Type 0} (step : ℕ → S → S) where
  -- a loop that counts from 0
  pub through_none : (first : ℕ) (s : S) → s ≡ through step first 0 s
  unfolding through
  through_none first s = refl

  pub through_more : (n : ℕ) (s : S) → through step 0 (n + 1) s ≡ step n (through step 0 n s)
  unfolding through
  through_more n s = rw (add-one, zero-add)

  -- from what a turn made of t at n
  pub through_next : (n : ℕ) (s : S) {t u : S} → t ≡ through step 0 n s → u ≡ step n t → u ≡ through step 0 (n + 1) s
  through_next n s p q = q ∙ ap (step n) p ∙ sym (through_more n s)

  pub through_end : (i n : ℕ) (s : S) → i ≤ n → n ≤ i → through step 0 i s ≡ through step 0 n s
  through_end i n s p q = rw (le_antisymm p q)

  -- a loop that counts from first up to i
  pub between_none : (first : ℕ) (s : S) → s ≡ through step first (first - first) s
  unfolding through
  between_none first s = let z : first - first ≡ 0 = omega arith in rw z

  pub between_more : (first i : ℕ) (s : S) → first ≤ i → through step first (i + 1 - first) s ≡ step i (through step first (i - first) s)
  unfolding through
  between_more first i s h =
      let a : i + 1 - first ≡ suc (i - first) = omega arith in
      let b : first + (i - first) ≡ i = omega arith in
      ap (λ (k : ℕ). through step first k s) a ∙ ap (λ (k : ℕ). step k (through step first (i - first) s)) b

  pub between_next : (first i : ℕ) (s : S) {t u : S} → first ≤ i → t ≡ through step first (i - first) s → u ≡ step i t → u ≡ through step first (i + 1 - first) s
  between_next first i s h p q = q ∙ ap (step i) p ∙ sym (between_more first i s h)

  -- nowhere to go
  pub between_nothing : (first last : ℕ) (s : S) → last ≤ first → s ≡ through step first (last - first) s
  unfolding through
  between_nothing first last s h = let z : last - first ≡ 0 = omega arith in rw z

  -- however far it was to go
  pub between_end : (first i n : ℕ) (s : S) {u : S} → i - first ≡ n → u ≡ through step first (i - first) s → u ≡ through step first n s
  between_end first i n s e p = p ∙ ap (λ (k : ℕ). through step first k s) e

  -- a pass between the start and the end of list a, as they were read, is the pass over list a
  pub list_pass : (starts : List ℕ) (a first last : ℕ) (s : S) {u : S} → first ≡ get_or starts a 0 → last ≡ get_or starts (a + 1) 0 → u ≡ through step first (last - first) s → u ≡ through_list step starts a s
  list_pass starts a first last s p q e =
      e ∙ ap (λ (z : ℕ). through step first (z - first) s) q ∙ ap (λ (z : ℕ). through step z (get_or starts (a + 1) 0 - z) s) p

  pub list_end : (starts : List ℕ) (a first last i : ℕ) (s : S) {u : S} → first ≡ get_or starts a 0 → last ≡ get_or starts (a + 1) 0 → i ≤ last → last ≤ i → u ≡ through step first (i - first) s → u ≡ through_list step starts a s
  list_end starts a first last i s p q h k e = list_pass starts a first last s p q (between_end first i (last - first) s (omega arith) e)

-- what a loop keeps that steps from first up to last and has come to i
pub record Passed {S : Type 0} (step : ℕ → S → S) (first last : ℕ) (before now : S) (i : ℕ) : Type 0 where
  pub low : first ≤ i
  pub high : i - first ≤ last - first
  pub so_far : now ≡ through step first (i - first) before

module _ {S : Type 0} {step : ℕ → S → S} where
  pub passed_none : (first last : ℕ) (s : S) → Passed step first last s s first
  passed_none first last s = record { low = omega arith; high = omega arith; so_far = between_none step first s }

  pub passed_next : {first last i : ℕ} {s t u : S} → Passed step first last s t i → i < last → u ≡ step i t → Passed step first last s u (i + 1)
  passed_next {first} {last} {i} {s} p h e =
      record { low = omega (arith, p); high = omega (arith, p); so_far = between_next step first i s p.low p.so_far e }

  pub passed_end : {first last i : ℕ} {s t : S} → Passed step first last s t i → last ≤ i → t ≡ through step first (last - first) s
  passed_end {first} {last} {i} {s} p h = between_end step first i (last - first) s (omega (arith, p)) p.so_far

-- steps that agree
pub through_cong : {S : Type 0} (f g : ℕ → S → S) (first n : ℕ) (s : S) → ((j : ℕ) → j < n → (t : S) → f (first + j) t ≡ g (first + j) t) → through f first n s ≡ through g first n s
unfolding through
through_cong f g first zero s h = refl
through_cong f g first (suc n) s h =
    h n (omega arith) (through f first n s) ∙ ap (g (first + n)) (through_cong f g first n s (λ j k t. h j (omega arith) t))
