-- The rival of the decoded path is the largest final score at any other last label: `other l` goes through the labels but l, each once, and the last of the largest among them is taken. Assumes nothing.
use mathlib.Core.Path.{◌≡◌, refl, sym, ◌∙◌}
use mathlib.Core.Logic.{◌≢◌, ◌⊎◌, inl, inr}
use mathlib.Core.Bool.{Bool, true, false, not}
use Prim.Native.Nat.{ℕ, ◌+◌, ◌-◌, ◌≤◌, ◌<◌}
use native.Mathlib.Numerals.{add-one}
use native.Mathlib.Omega.{arith}
use borrow.Author.Tests.{lt-ltb, le-ltb}
use lib.Dec.{T, ltb, ltb→lt, nltb→le}
use lib.Ieee.{Float}
use Rattle.best_path.specs.Decoded.{last_largest, best, last_label}
use Rattle.best_path.specs.Lead.{other, rival}
use Rattle.best_path.specs.LargestOther.{RivalIsLargestOther}
use Rattle.best_path.proofs.Largest.{largest_within, largest_none_above}
use Rattle.best_path.proofs.Paths.{last_label_within}
use Rattle.best_path.proofs.Best.{best_number}

-- ---- the labels other than l: below it as they are, from it on the next
below_or_not : (k l : ℕ) → (k < l) ⊎ (l ≤ k)
below_or_not k l = go (ltb k l) (ltb→lt k l) (nltb→le k l)
  where
    go : (b : Bool) → (T b → k < l) → (T (not b) → l ≤ k) → (k < l) ⊎ (l ≤ k)
    go true h i = inl (h tt)
    go false h i = inr (i tt)

module _ (l : ℕ) where
  pub other_below : (k : ℕ) → k < l → other l k ≡ k
  other_below k h = rw (lt-ltb k l h)

  pub other_above : (k : ℕ) → l ≤ k → other l k ≡ k + 1
  other_above k h = rw (le-ltb k l h) (sym (add-one k))

  pub other_within : (labels k : ℕ) → 1 < labels → k ≤ labels - 2 → other l k < labels
  other_within labels k more h = elim (below_or_not k l) [ inl b ↦ rw (other_below k b) (omega arith) | inr a ↦ rw (other_above k a) (omega arith) ]

  pub other_differs : (k : ℕ) → other l k ≢ l
  other_differs k e = elim (below_or_not k l) [ inl b ↦ absurd (omega (arith, other_below k b)) | inr a ↦ absurd (omega (arith, other_above k a)) ]

  -- each of them is met
  pub record Met (labels j : ℕ) : Type 0 where
    pub place : ℕ
    pub within : place ≤ labels - 2
    pub is : other l place ≡ j

  pub other_meets : (labels j : ℕ) → l < labels → j < labels → j ≢ l → Met labels j
  other_meets labels j h k d = elim (below_or_not j l) [
    | inl b ↦ record { place = j; within = omega arith; is = other_below j b }
    | inr a ↦ let e : l ≤ j - 1 = omega arith in record { place = j - 1; within = omega arith; is = other_above (j - 1) e ∙ omega arith }
  ]

pub rival_largest : RivalIsLargestOther
unfolding rival
rival_largest s words more any fine =
    let l = last_label s words in
    let score : ℕ → Float = λ k. best s (words - 1) (other l k) in
    let k = last_largest score (s.labels - 2) in
    record {
      label = other l k;
      below = other_within l s.labels k more (largest_within score (s.labels - 2));
      other = other_differs l k;
      score = refl;
      largest = λ j b d.
          let m = other_meets l s.labels j (last_label_within s (omega arith) words) b d in
          rw m.is at
          (largest_none_above score (s.labels - 2) (λ i h. best_number s words (omega arith) fine (words - 1) (other l i) (omega arith) (other_within l s.labels i more h)) m.place m.within);
    }
