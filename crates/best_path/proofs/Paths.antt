-- The path that the steps back give: how long it is, which labels it has, and that its rounded sum is the best for its last label, to the bit. Nothing is asked of the scores. Assumes nothing.
use mathlib.Core.Path.{◌≡◌, refl, sym, ap, ◌∙◌}
use mathlib.Core.Logic.{inl, inr}
use mathlib.Core.List.{List, [], ◌∷◌}
use Prim.Native.Nat.{ℕ, zero, suc, ◌+◌, ◌-◌, ◌≤◌, ◌<◌}
use native.Mathlib.Nat as N
use native.Mathlib.Numerals.{add-one}
use native.Mathlib.Omega.{arith}
use lib.ListN.{length, length-append, get_or-append}
use lib.Seq.{get_or_at}
use lib.Ieee.{Float}
use Rattle.best_path.specs.Scores.{Scores, Allowed, label_at, sum_through, sum_of}
use Rattle.best_path.specs.Decoded.{last_largest, highest, best, back, path_to, last_label, decoded_path, decoded_sum}
use Rattle.best_path.proofs.Largest.{newest, largest_within}

module _ (s : Scores) where
  pub path_length : (word label : ℕ) → length (path_to s word label) ≡ word + 1
  unfolding path_to
  path_length zero label = refl
  path_length (suc word) label = rw (length-append, path_length word (back s word label)) (omega arith)

  -- ---- its labels
  pub path_end : (word label : ℕ) → label_at (path_to s word label) word ≡ label
  unfolding path_to
  path_end zero label = refl
  path_end (suc word) label = get_or_at (path_to s word (back s word label)) label [] 0 (suc word) (path_length word (back s word label) ∙ add-one word)

  path_before : (word label t : ℕ) → t ≤ word → label_at (path_to s (suc word) label) t ≡ label_at (path_to s word (back s word label)) t
  unfolding path_to
  path_before word label t h = get_or-append (path_to s word (back s word label)) (label ∷ []) 0 t (rw (path_length word (back s word label)) (omega arith))

  -- a label that is the last of the largest is below L
  pub largest_label : 0 < s.labels → (g : ℕ → Float) → last_largest g (highest s) < s.labels
  largest_label some g = omega (arith, largest_within g (highest s))

  pub back_within : 0 < s.labels → (word label : ℕ) → back s word label < s.labels
  unfolding back
  back_within some word label = largest_label some _

  pub path_labels : 0 < s.labels → (word label t : ℕ) → label < s.labels → t ≤ word → label_at (path_to s word label) t < s.labels
  path_labels some zero label t l h = let e : t ≡ 0 = omega arith in rw (e, path_end zero label) l
  path_labels some (suc word) label t l h =
      elim (newest t word h) [
        | inl e ↦ rw (e, path_end (suc word) label) l
        | inr b ↦ rw (path_before word label t b) (path_labels some word (back s word label) t (back_within some word label) b)
      ]

  -- ---- each is the step back from the next, for the words before `word`
  abbrev pub Follows : List ℕ → ℕ → Type 0
  Follows path word = (t : ℕ) → t < word → label_at path t ≡ back s t (label_at path (suc t))

  pub path_follows : (word label : ℕ) → Follows (path_to s word label) word
  path_follows zero label t h = absurd (N.not-suc-le-zero h)
  path_follows (suc word) label t h =
      elim (newest (suc t) word h) [
        | inl e ↦
            let same : t ≡ word = omega arith in
            rw (same, path_before word label word (N.le_refl word), path_end word (back s word label), path_end (suc word) label)
        | inr b ↦ rw (path_before word label t (omega arith), path_before word label (suc t) b) (path_follows word (back s word label) t b)
      ]

  -- ---- a path that follows the steps back has the best sum of its last label, and so has each of its prefixes
  pub sum_follows : (path : List ℕ) (word : ℕ) → Follows path word → sum_through s path word ≡ best s word (label_at path word)
  unfolding sum_through best
  sum_follows path zero f = refl
  sum_follows path (suc word) f = rw (sum_follows path word (λ t h. f t (omega arith)), f word (N.le_refl (suc word))) (unfold back in refl)

  pub path_sum : (word label : ℕ) → sum_through s (path_to s word label) word ≡ best s word label
  path_sum word label = sum_follows (path_to s word label) word (path_follows word label) ∙ ap (best s word) (path_end word label)

  -- ---- the decoded path and its sum
  pub decoded_length : (words : ℕ) → 0 < words → length (decoded_path s words) ≡ words
  unfolding decoded_path
  decoded_length words h = path_length (words - 1) (last_label s words) ∙ omega arith

  pub last_label_within : 0 < s.labels → (words : ℕ) → last_label s words < s.labels
  unfolding last_label
  last_label_within some words = largest_label some (best s (words - 1))

  pub decoded_allowed : 0 < s.labels → (words : ℕ) → 0 < words → Allowed s words (decoded_path s words)
  unfolding decoded_path
  decoded_allowed some words h = record {
    long = decoded_length words h;
    labels = λ t k. path_labels some (words - 1) (last_label s words) t (last_label_within some words) (omega arith);
  }

  pub decoded_end : (words : ℕ) → label_at (decoded_path s words) (words - 1) ≡ last_label s words
  unfolding decoded_path
  decoded_end words = path_end (words - 1) (last_label s words)

  pub decoded_follows : (words : ℕ) → Follows (decoded_path s words) (words - 1)
  unfolding decoded_path
  decoded_follows words = path_follows (words - 1) (last_label s words)

  -- the sum answered is the rounded sum of the path answered
  pub sum_of_path : (words : ℕ) → decoded_sum s words ≡ sum_of s words (decoded_path s words)
  unfolding decoded_sum decoded_path
  sum_of_path words = sym (path_sum (words - 1) (last_label s words))
