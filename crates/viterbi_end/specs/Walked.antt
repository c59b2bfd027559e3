-- The path walked by the steps back. Assumes nothing.
use Rattle.std.specs.Prelude.{List, [], ◌∷◌, ◌++◌, ℕ, zero, suc, ◌+◌, ◌*◌, ◌≤◌, ◌<◌, length, get_or}
use Rattle.refusals.specs.Bounds.{the_labels, most}

-- the labels met from a label of a word back to the first word, in the words' order
unfoldable pub walked : List ℕ → ℕ → ℕ → ℕ → List ℕ
walked steps n zero label = label ∷ []
walked steps n (suc word) label = walked steps n word (get_or steps ((word + 1) * n + label) 0) ++ (label ∷ [])

-- each step leads to a label
abbrev pub StepsWithin : List ℕ → ℕ → ℕ → Type 0
StepsWithin steps n words = (earlier label : ℕ) → earlier + 1 < words → label < n → get_or steps ((earlier + 1) * n + label) 0 < n

-- what the walk may rely on
pub record Walk (n words : ℕ) (steps path : List ℕ) : Type 0 where
  pub some : 0 < n
  pub few : n ≤ most the_labels
  pub any : 0 < words
  pub long_path : words ≤ length path
  pub long_steps : words * n ≤ length steps
  pub within : StepsWithin steps n words
