-- Demand 3: the decoded path is best where every score is finite. It goes back step by step from the last of the best final labels, so at every word it has the best sum for its label, and no path that does as well is later. Assumes nothing.
use mathlib.Core.Path.{◌≡◌, ◌∙◌}
use mathlib.Core.Logic.{inl, inr}
use mathlib.Core.List.{List}
use Prim.Native.Nat.{ℕ, suc, ◌-◌, ◌≤◌, ◌<◌}
use native.Mathlib.Nat.{eq-or-lt_of_le, le_of_suc-le-suc}
use native.Mathlib.Numerals.{add-one}
use native.Mathlib.Omega.{arith}
use lib.Dec.{T}
use lib.Ieee.{le}
use Rattle.binary64.proofs.Order.{le_trans}
use Rattle.best_path.specs.Scores.{Scores, AllFinite, Allowed, label_at, sum_through, sum_of}
use Rattle.best_path.specs.Decoded.{highest, best, path_to, last_label, decoded_path}
use Rattle.best_path.specs.BestPath.{NoneLarger, PrefixesBest, NotLater}
use Rattle.best_path.specs.Demand3.{DecodedIsBest}
use Rattle.best_path.proofs.Largest.{largest_none_above, largest_none_after}
use Rattle.best_path.proofs.Paths.{path_length, path_end, path_labels, path_sum, sum_follows, decoded_allowed, decoded_end, decoded_follows, sum_of_path}
use Rattle.best_path.proofs.Best.{from, best_number, back_last, last_move, below_best}

module _ (s : Scores) (words : ℕ) (some : 0 < s.labels) (any : 0 < words) (fine : AllFinite s words) where
  abbrev path : List ℕ
  path = decoded_path s words

  -- ---- sums against the best for a label
  -- the decoded path has it at every word
  has_best : (t : ℕ) → t < words → sum_through s path t ≡ best s t (label_at path t)
  has_best t h = sum_follows s path t (λ u k. decoded_follows s words u (omega arith))

  -- no path is above it
  at_most : (first : ℕ) → 0 < first → first ≤ words → (q : List ℕ) → Allowed s first q → T (le (sum_of s first q) (best s (first - 1) (label_at q (first - 1))))
  at_most first more fits q allowed = below_best s words some fine q (first - 1) (omega arith) (λ t h. allowed.labels t (omega arith))

  -- a path whose prefixes are best reaches it at every word: the path that the steps back give for its label there is among those it is compared with
  reaches : (q : List ℕ) → PrefixesBest s words q → (t : ℕ) → t < words → label_at q t < s.labels → T (le (best s t (label_at q t)) (sum_through s q t))
  reaches q pre t h l =
      let p = path_to s t (label_at q t) in
      let same : suc t - 1 ≡ t = omega arith in
      let allowed : Allowed s (suc t) p = record { long = path_length s t (label_at q t) ∙ add-one t; labels = λ u k. path_labels s some t (label_at q t) u l (le_of_suc-le-suc k) } in
      rw (← path_sum s t (label_at q t)) (rw same at (pre (suc t) (omega arith) h p allowed (rw same (path_end s t (label_at q t)))))

  -- ---- the last label is the last of those with the largest final score
  final_over : (l : ℕ) → l < s.labels → T (le (best s (words - 1) l) (best s (words - 1) (last_label s words)))
  unfolding last_label
  final_over l b = largest_none_above (best s (words - 1)) (highest s) (λ j h. best_number s words some fine (words - 1) j (omega arith) (omega arith)) l (omega arith)

  final_last : (l : ℕ) → l < s.labels → T (le (best s (words - 1) (last_label s words)) (best s (words - 1) l)) → l ≤ last_label s words
  unfolding last_label
  final_last l b = largest_none_after (best s (words - 1)) (highest s) l (omega arith)

  -- ---- the properties, one by one
  none_larger : NoneLarger s words path
  none_larger q allowed =
      let e = words - 1 in
      le_trans (sum_through s q e) (best s e (label_at q e)) (sum_through s path e) (at_most words any (omega arith) q allowed)
      (rw (has_best e (omega arith), decoded_end s words) (final_over (label_at q e) (allowed.labels e (omega arith))))

  prefixes : PrefixesBest s words path
  prefixes first more fits q allowed same = rw (has_best (first - 1) (omega arith), ← same) (at_most first more fits q allowed)

  last : (q : List ℕ) → Allowed s words q → NoneLarger s words q → PrefixesBest s words q → NotLater words q path
  last q allowed large pre t h agree = elim (eq-or-lt_of_le h) [ inl c ↦ at_final (omega arith) | inr c ↦ before c ]
    where
      -- at the final word q's sum is as large as the decoded path's, so q's label is as good, and not after the last of the best
      at_final : t ≡ words - 1 → label_at q t ≤ label_at path t
      at_final c =
          let e = words - 1 in
          let x : T (le (best s e (last_label s words)) (sum_through s q e)) = rw (← decoded_end s words, ← has_best e (omega arith)) (large path (decoded_allowed s some words any)) in
          rw (c, decoded_end s words) (final_last (label_at q e) (allowed.labels e (omega arith)) (le_trans _ (sum_through s q e) _ x (at_most words any (omega arith) q allowed)))

      -- before it, q's prefix to the next word reaches the best for the label that the two share there, so q's label is a candidate that has it, and not after the step back
      before : suc t < words → label_at q t ≤ label_at path t
      before c =
          let l = label_at path (suc t) in
          let same : label_at q (suc t) ≡ l = agree (suc t) (omega arith) c in
          let labels : (count : ℕ) → count ≤ words → (u : ℕ) → u < count → label_at q u < s.labels = λ count k u i. allowed.labels u (omega arith) in
          let x : T (le (best s (suc t) l) (sum_through s q (suc t))) = rw (← same) (reaches q pre (suc t) c (allowed.labels (suc t) c)) in
          let y : T (le (sum_through s q (suc t)) (from s t l (label_at q t))) = rw (← same) (last_move s words some fine q t c (labels (suc (suc t)) c) (below_best s words some fine q t h (labels (suc t) h))) in
          rw (decoded_follows s words t (omega arith)) (back_last s words some fine t l (label_at q t) (allowed.labels t h) (le_trans _ (sum_through s q (suc t)) _ x y))

pub demand_3 : DecodedIsBest
demand_3 s words some any fine = record {
  allowed = decoded_allowed s some words any;
  none_larger = none_larger s words some any fine;
  prefixes = prefixes s words some any fine;
  last = last s words some any fine;
  rounded = sum_of_path s words;
}
