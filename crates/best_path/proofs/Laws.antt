-- The definitions as loops meet them: for each a law for the start and one for a turn more, with the code's `+ 1`, and what a row of best sums gives. Assumes nothing.
use mathlib.Core.Path.{◌≡◌, refl, sym, ap, ◌∙◌}
use mathlib.Core.Bool.{Bool, true, false, cond}
use mathlib.Core.List.{List, [], ◌∷◌, ◌++◌}
use Prim.Native.Nat.{ℕ, zero, suc, ◌+◌, ◌-◌, ◌*◌, ◌≤◌, ◌<◌}
use native.Mathlib.Numerals.{add-one}
use native.Mathlib.Omega.{arith}
use lib.Arith.{digits_lt}
use lib.Dec.{T}
use lib.ListN.{get_or}
use lib.Seq.{append_snoc}
use lib.IntN.{pos}
use lib.Ieee.{Float, nan, fin, binary64, add, le}
use lib.Ieee.Scale.{finite}
use Rattle.best_path.specs.Scores.{Scores, tabled, AllFinite, label_at, extended}
use Rattle.best_path.specs.Decoded.{last_largest, highest, best, back, path_to, last_label, decoded_path, decoded_sum}
use Rattle.best_path.specs.Lead.{other, rival}
use Rattle.best_path.specs.PathScore.{path_score}
pub use Rattle.best_path.proofs.Largest.{largest_within, largest_same}
pub use Rattle.best_path.proofs.Paths.{path_length, path_end, path_labels, back_within, last_label_within, decoded_length, decoded_allowed, decoded_end, sum_of_path}
pub use Rattle.best_path.proofs.Rival.{other_below, other_above, other_within}
use Rattle.best_path.proofs.Paths.{decoded_follows}

-- ---- tables
pub tabled_finite : (labels words : ℕ) (transitions states : List Float) → ((i : ℕ) → i < labels * labels → T (finite (get_or transitions i nan))) → ((i : ℕ) → i < words * labels → T (finite (get_or states i nan))) → AllFinite (tabled labels transitions states) words
tabled_finite labels words transitions states p q = record {
  states = λ word label h k. q (word * labels + label) (digits_lt h k);
  transitions = λ previous label h k. p (previous * labels + label) (digits_lt h k);
}

-- ---- the last of the largest, as a running maximum
module _ (g : ℕ → Float) where
  pub largest_first : last_largest g 0 ≡ 0
  unfolding last_largest
  largest_first = refl

  pub largest_more : (n : ℕ) → last_largest g (n + 1) ≡ cond (le (g (last_largest g n)) (g (n + 1))) (n + 1) (last_largest g n)
  unfolding last_largest
  largest_more n = rw (add-one n)

  -- its value takes the same choice
  pub value_more : (n : ℕ) → g (last_largest g (n + 1)) ≡ cond (le (g (last_largest g n)) (g (n + 1))) (g (n + 1)) (g (last_largest g n))
  value_more n = ap g (largest_more n) ∙ chosen (le (g (last_largest g n)) (g (n + 1)))
    where
      chosen : (b : Bool) → g (cond b (n + 1) (last_largest g n)) ≡ cond b (g (n + 1)) (g (last_largest g n))
      chosen true = refl
      chosen false = refl

  -- the same for a loop that counts the candidates behind it
  module _ (count : ℕ) (any : 0 < count) where
    again : count + 1 - 1 ≡ (count - 1) + 1
    again = omega arith

    this : (count - 1) + 1 ≡ count
    this = omega arith

    pub largest_turn : last_largest g (count + 1 - 1) ≡ cond (le (g (last_largest g (count - 1))) (g count)) count (last_largest g (count - 1))
    largest_turn = rw again (largest_more (count - 1) ∙ ap (λ (n : ℕ). cond (le (g (last_largest g (count - 1))) (g n)) n (last_largest g (count - 1))) this)

    pub value_turn : g (last_largest g (count + 1 - 1)) ≡ cond (le (g (last_largest g (count - 1))) (g count)) (g count) (g (last_largest g (count - 1)))
    value_turn = rw again (value_more (count - 1) ∙ ap (λ (n : ℕ). cond (le (g (last_largest g (count - 1))) (g n)) (g n) (g (last_largest g (count - 1)))) this)

-- ---- best sums and steps back
-- the candidate `previous` for a label of the word after `word`, where a row has the best sums up to `word`
abbrev pub candidate : Scores → (ℕ → Float) → ℕ → ℕ → ℕ → Float
candidate s row word label previous = extended s (row previous) previous (word + 1) label

module _ (s : Scores) where
  pub best_first : (label : ℕ) → best s 0 label ≡ s.state 0 label
  unfolding best
  best_first label = refl

  pub back_is : (word label : ℕ) → back s word label ≡ last_largest (candidate s (best s word) word label) (highest s)
  unfolding back
  back_is word label = ap (λ (next : ℕ). last_largest (λ k. extended s (best s word k) k next label) (highest s)) (sym (add-one word))

  pub best_more : (word label : ℕ) → best s (word + 1) label ≡ candidate s (best s word) word label (back s word label)
  unfolding best back
  best_more word label = rw (add-one word)

  -- a row that has the best sums up to `word` gives the steps back and the best sums of the next word
  module _ (row : ℕ → Float) (word : ℕ) (same : (label : ℕ) → label < s.labels → row label ≡ best s word label) (some : 0 < s.labels) where
    pub row_back : (label : ℕ) → last_largest (candidate s row word label) (highest s) ≡ back s word label
    row_back label =
        largest_same (candidate s row word label) (candidate s (best s word) word label) (highest s) (λ k h. ap (λ (v : Float). extended s v k (word + 1) label) (same k (omega arith)))
        ∙ sym (back_is word label)

    pub row_best : (label : ℕ) → candidate s row word label (last_largest (candidate s row word label) (highest s)) ≡ best s (word + 1) label
    row_best label =
        ap (candidate s row word label) (row_back label)
        ∙ ap (λ (v : Float). extended s v (back s word label) (word + 1) label) (same (back s word label) (back_within s some word label))
        ∙ sym (best_more word label)

  -- ---- paths
  pub path_first : (label : ℕ) → path_to s 0 label ≡ label ∷ []
  unfolding path_to
  path_first label = refl

  pub path_more : (word label : ℕ) → path_to s (word + 1) label ≡ path_to s word (back s word label) ++ (label ∷ [])
  unfolding path_to
  path_more word label = rw (add-one word)

  -- a path written from its end: the label goes to the front of what is written
  pub path_back : (word label : ℕ) (rest : List ℕ) → path_to s (word + 1) label ++ rest ≡ path_to s word (back s word label) ++ (label ∷ rest)
  path_back word label rest = rw (path_more word label, append_snoc)

  pub decoded_step : (words word : ℕ) → word + 1 < words → label_at (decoded_path s words) word ≡ back s word (label_at (decoded_path s words) (word + 1))
  decoded_step words word h = rw (add-one word) (decoded_follows s words word (omega arith))

  -- ---- the score of a path
  module _ (path : List ℕ) where
    pub score_none : path_score s path 0 ≡ fin false 0 (pos 0)
    unfolding path_score
    score_none = refl

    pub score_first : path_score s path 1 ≡ add binary64 (fin false 0 (pos 0)) (s.state 0 (label_at path 0))
    unfolding path_score
    score_first = refl

    pub score_more : (word : ℕ) → 0 < word → path_score s path (word + 1) ≡ add binary64 (add binary64 (path_score s path word) (s.state word (label_at path word))) (s.transition (label_at path (word - 1)) (label_at path word))
    unfolding path_score
    score_more zero h = absurd (omega arith)
    score_more (suc word) h = let before : suc word - 1 ≡ word = omega arith in rw (add-one (suc word), before)

  -- ---- the answer, from a row that has the final scores
  module _ (words : ℕ) (row : ℕ → Float) (same : (label : ℕ) → label < s.labels → row label ≡ best s (words - 1) label) where
    pub row_last : 0 < s.labels → last_largest row (highest s) ≡ last_label s words
    unfolding last_label
    row_last some = largest_same row (best s (words - 1)) (highest s) (λ k h. same k (omega arith))

    pub row_sum : 0 < s.labels → row (last_label s words) ≡ decoded_sum s words
    unfolding decoded_sum
    row_sum some = same (last_label s words) (last_label_within s some words)

    pub row_rival : 1 < s.labels → let l = last_label s words in row (other l (last_largest (λ k. row (other l k)) (s.labels - 2))) ≡ rival s words
    unfolding rival
    row_rival more =
        let l = last_label s words in
        let seen : (k : ℕ) → k ≤ s.labels - 2 → row (other l k) ≡ best s (words - 1) (other l k) = λ k h. same (other l k) (other_within l s.labels k more h) in
        seen _ (largest_within (λ k. row (other l k)) (s.labels - 2)) ∙ ap (λ (k : ℕ). best s (words - 1) (other l k)) (largest_same (λ k. row (other l k)) (λ k. best s (words - 1) (other l k)) (s.labels - 2) seen)
