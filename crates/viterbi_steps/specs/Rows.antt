-- What the decoder holds between two words, and what one word more makes of it. Assumes nothing.
use Rattle.std.specs.Prelude.{◌≡◌, cond, List, ℕ, ◌+◌, ◌*◌, ◌≤◌, ◌<◌, length, get_or, replicate, Float}
use Rattle.std.specs.Float.{nan, binary64}
use Rattle.std.specs.Float.Ieee.{of_bits, add, le}
use Rattle.refusals.specs.Bounds.{the_labels, the_line_words, most}
use Rattle.best_path.specs.Scores.{Scores, tabled}
use Rattle.best_path.specs.Decoded.{best, back}
use Rattle.viterbi_steps.specs.declared.Row.{Row}
use Rattle.viterbi_steps.specs.Written.{written}

-- "one row of best scores": at each label, the best sum over the words 0 to `word`
abbrev pub Holds : Scores → ℕ → List Float → Type 0
Holds s word row = (label : ℕ) → label < s.labels → get_or row label nan ≡ best s word label

-- "the steps back": at each word after the first, up to `word`, and each label, the label of the word before
abbrev pub StepsTo : Scores → ℕ → List ℕ → Type 0
StepsTo s word steps =
    (earlier label : ℕ) → earlier < word → label < s.labels → get_or steps ((earlier + 1) * s.labels + label) 0 ≡ back s earlier label

-- "Decode starts from the first word's states"
abbrev pub first_row_of : ℕ → List Float → Row
first_row_of n states = record { best = written 0 (λ label. get_or states label nan) n (replicate (most the_labels) (of_bits binary64 0)); width = n }

-- what the word after `word` needs: its part of the tables, the row before it, and room for the next
pub record Before (n word : ℕ) (transitions states row next : List Float) (steps : List ℕ) : Type 0 where
  pub some : 0 < n
  pub few : n ≤ most the_labels
  pub early : word < most the_line_words
  pub long_transitions : n * n ≤ length transitions
  pub long_states : (word + 1) * n + n ≤ length states
  pub long_steps : (word + 1) * n + n ≤ length steps
  pub wide : length next ≡ most the_labels
  pub holds : Holds (tabled n transitions states) word row

-- what it makes: the next row of best scores, and the steps back from it
pub record After (n word : ℕ) (transitions states next : List Float) (steps : List ℕ) (row : List Float) (longer : List ℕ) : Type 0 where
  pub scores : row ≡ written 0 (best (tabled n transitions states) (word + 1)) n next
  pub leads : longer ≡ written ((word + 1) * n) (back (tabled n transitions states) word) n steps

-- the candidates from one label, by the label that they lead to: its transitions begin at `base`, the word's states at `at`
abbrev pub onward : Float → List Float → ℕ → List Float → ℕ → ℕ → Float
onward score transitions base states at label =
    add binary64 (add binary64 score (get_or transitions (base + label) nan)) (get_or states (at + label) nan)

-- a score and its mark once a candidate is tried: "The last equal candidate wins"
abbrev pub score_tried : (ℕ → Float) → List Float → ℕ → Float
score_tried candidates row label = cond (le (get_or row label nan) (candidates label)) (candidates label) (get_or row label nan)

abbrev pub mark_tried : (ℕ → Float) → List Float → ℕ → List ℕ → ℕ → ℕ
mark_tried candidates row mark marks label = cond (le (get_or row label nan) (candidates label)) mark (get_or marks label 0)
