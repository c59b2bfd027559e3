-- The laws of `walked` that the walk back leans on, and that it is the decoded path where the steps are the steps back. Assumes nothing.
use Rattle.std.specs.Prelude.{Option}
use mathlib.Core.Path.{◌≡◌, sym, ap, ◌∙◌}
use mathlib.Core.List.{List, ◌∷◌, ◌++◌}
use Prim.Native.Nat.{ℕ, zero, suc, ◌+◌, ◌-◌, ◌*◌, ◌≤◌, ◌<◌}
use native.Mathlib.Numerals.{add-one}
use native.Mathlib.Omega.{arith}
use lib.ListN.{length, get_or, set, drop, length-set}
use lib.Seq.{append_snoc, drop-cons, drop-set-lt, get_or-set_same}
use lib.Ieee.{Float}
use Rattle.best_path.specs.Scores.{Scores}
use Rattle.best_path.specs.Decoded.{back, path_to}
use Rattle.best_path.proofs.Laws.{back_within, path_first, path_more}
use Rattle.viterbi_steps.specs.Rows.{StepsTo}
use Rattle.viterbi_end.specs.Rival.{score_at}
use Rattle.viterbi_end.specs.Ends.{lead_said, last_of, lead_in_row, Ended}
use Rattle.viterbi_end.specs.Walked.{walked, StepsWithin, Walk}

module _ (steps : List ℕ) (n : ℕ) (path : List ℕ) (label : ℕ) where
  -- what lies from a word on, once its label is written
  written : (word : ℕ) → word < length path → drop word (set path word label) ≡ label ∷ drop (word + 1) path
  written word h =
      drop-cons (set path word label) word 0 (simp length-set h)
      ∙ rw (get_or-set_same path word label 0 h, drop-set-lt (suc word) path word label (omega arith), add-one word)

  -- one word is written, and its step taken
  pub walk_more : (word : ℕ) → 0 < word → word < length path → {made : List ℕ} {next : ℕ} → made ≡ set path word label → next ≡ get_or steps (word * n + label) 0 → walked steps n (word - 1) next ++ drop (word - 1 + 1) made ≡ walked steps n word label ++ drop (word + 1) path
  unfolding walked
  walk_more zero any h m t = absurd (omega arith)
  walk_more (suc word) any h m t =
      let e : suc word - 1 ≡ word = omega arith in
      rw (m, t, e, add-one word, written (suc word) h, append_snoc)

  -- the first word is written
  pub walk_end : {word : ℕ} → word ≤ 0 → 0 < length path → {made : List ℕ} → made ≡ set path 0 label → made ≡ walked steps n word label ++ drop (word + 1) path
  unfolding walked
  walk_end {word} first h m = let e : word ≡ 0 = omega arith in rw e (m ∙ written 0 h)

-- the step from a word after the first leads to a label
pub step_within : {n words : ℕ} {steps path : List ℕ} → Walk n words steps path → (word label : ℕ) → 0 < word → word < words → label < n → {next : ℕ} → next ≡ get_or steps (word * n + label) 0 → next < n
step_within walk word label any h k e = let b : word - 1 + 1 ≡ word = omega arith in rw e (rw b at (walk.within (word - 1) label (rw b h) k))

-- the end of a line, its last label by name
pub ended : {row : List Float} {n words last : ℕ} {steps before after : List ℕ} {lead : Option Float} → last ≡ last_of row n → lead_said lead ≡ lead_in_row row n last → after ≡ walked steps n (words - 1) last ++ drop words before → Ended row n words steps before (record { sum = score_at row last; lead = lead }) after
ended e l p = record { sum = rw e; lead = rw e at l; path = rw e at p }

-- the steps back of the definition lead along its path
pub walked_path : (s : Scores) (steps : List ℕ) → 0 < s.labels → (word : ℕ) → StepsTo s word steps → (label : ℕ) → label < s.labels → walked steps s.labels word label ≡ path_to s word label
unfolding walked
walked_path s steps some zero leads label h = sym (path_first s label)
walked_path s steps some (suc word) leads label h =
    let l : word < suc word = omega arith in
    rw (leads word label l h, walked_path s steps some word (λ e k b. leads e k (omega arith)) (back s word label) (back_within s some word label))
    (sym (path_more s word label) ∙ ap (λ (w : ℕ). path_to s w label) (add-one word))

pub steps_within : (s : Scores) (steps : List ℕ) → 0 < s.labels → (words : ℕ) → StepsTo s (words - 1) steps → StepsWithin steps s.labels words
steps_within s steps some words leads earlier label b h = rw (leads earlier label (omega arith) h) (back_within s some earlier label)
