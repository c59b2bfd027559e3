-- Where every score is finite, no path has a sum above the best for its last label: each word more keeps the order, and `best` is the largest of its candidates, `back` the last that has it. Assumes nothing.
use mathlib.Core.List.{List}
use Prim.Native.Nat.{ℕ, zero, suc, ◌≤◌, ◌<◌}
use native.Mathlib.Omega.{arith}
use lib.Dec.{T}
use lib.Ieee.{Float, nan, inf, fin, binary64, add, le, is_nan}
use lib.Ieee.Scale.{finite}
use Rattle.binary64.specs.Order.{is_number}
use Rattle.binary64.proofs.Order.{le_refl, le_trans}
use Rattle.binary64.proofs.Sums.{add_number, add_mono}
use Rattle.best_path.specs.Scores.{Scores, AllFinite, label_at, extended, sum_through}
use Rattle.best_path.specs.Decoded.{highest, best, back}
use Rattle.best_path.proofs.Largest.{largest_none_above, largest_none_after}
use Rattle.best_path.proofs.Paths.{back_within}

finite_number : (x : Float) → T (finite x) → T (is_number x)
unfolding is_nan
finite_number nan h = h
finite_number (inf s) h = tt
finite_number (fin s m e) h = tt

-- the candidate `previous` for a label of the word after `word`
abbrev pub from : Scores → ℕ → ℕ → ℕ → Float
from s word label previous = extended s (best s word previous) previous (suc word) label

module _ (s : Scores) (words : ℕ) (some : 0 < s.labels) (fine : AllFinite s words) where
  -- the labels of the first so many words are below L
  abbrev pub Below : List ℕ → ℕ → Type 0
  Below path count = (t : ℕ) → t < count → label_at path t < s.labels

  -- ---- one word more makes a number of a number, and keeps the order
  extended_number : (v : Float) (k t l : ℕ) → t < words → k < s.labels → l < s.labels → T (is_number v) → T (is_number (extended s v k t l))
  unfolding extended
  extended_number v k t l a b c h =
      add_number binary64 (add binary64 v (s.transition k l)) (s.state t l) (add_number binary64 v (s.transition k l) h (fine.transitions k l b c)) (fine.states t l a c)

  extended_mono : (v w : Float) (k t l : ℕ) → t < words → k < s.labels → l < s.labels → T (le v w) → T (le (extended s v k t l) (extended s w k t l))
  unfolding extended
  extended_mono v w k t l a b c h =
      add_mono binary64 (add binary64 v (s.transition k l)) (add binary64 w (s.transition k l)) (s.state t l) (fine.states t l a c) (add_mono binary64 v w (s.transition k l) (fine.transitions k l b c) h)

  pub best_number : (t l : ℕ) → t < words → l < s.labels → T (is_number (best s t l))
  unfolding best back
  best_number zero l a b = finite_number (s.state 0 l) (fine.states 0 l a b)
  best_number (suc t) l a b =
      let k = back s t l in
      let w = back_within s some t l in
      extended_number (best s t k) k (suc t) l a w b (best_number t k (omega arith) w)

  -- ---- `best` is the largest of its candidates, and `back` the last that has it
  pub back_last : (t l k : ℕ) → k < s.labels → T (le (best s (suc t) l) (from s t l k)) → k ≤ back s t l
  unfolding best back
  back_last t l k b = largest_none_after (from s t l) (highest s) k (omega arith)

  best_over : (t l k : ℕ) → suc t < words → l < s.labels → k < s.labels → T (le (from s t l k) (best s (suc t) l))
  unfolding best
  best_over t l k a b c = largest_none_above (from s t l) (highest s) (λ j h. extended_number (best s t j) j (suc t) l a (omega arith) b (best_number t j (omega arith) (omega arith))) k (omega arith)

  -- ---- no path that ends in a label has a sum above the best for it
  pub last_move : (q : List ℕ) (t : ℕ) → suc t < words → Below q (suc (suc t)) → T (le (sum_through s q t) (best s t (label_at q t))) → T (le (sum_through s q (suc t)) (from s t (label_at q (suc t)) (label_at q t)))
  unfolding sum_through
  last_move q t a l = extended_mono (sum_through s q t) (best s t (label_at q t)) (label_at q t) (suc t) (label_at q (suc t)) a (l t (omega arith)) (l (suc t) (omega arith))

  pub below_best : (q : List ℕ) (t : ℕ) → t < words → Below q (suc t) → T (le (sum_through s q t) (best s t (label_at q t)))
  below_best q zero a l = unfold sum_through best in le_refl (s.state 0 (label_at q 0)) (best_number 0 (label_at q 0) a (l 0 (omega arith)))
  below_best q (suc t) a l =
      le_trans (sum_through s q (suc t)) (from s t (label_at q (suc t)) (label_at q t)) (best s (suc t) (label_at q (suc t)))
      (last_move q t a l (below_best q t (omega arith) (λ u h. l u (omega arith))))
      (best_over t (label_at q (suc t)) (label_at q t) a (l (suc t) (omega arith)) (l t (omega arith)))
