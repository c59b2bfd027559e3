-- Document 01, "Numbered refusals", row by row for a path score, and their order. Assumes nothing.
use Rattle.std.specs.Prelude.{List, [], ◌∷◌, ◌++◌, ℕ, ltb, Float}
use Rattle.refusals.specs.Refusals.{Checked, first, refuse}
use Rattle.refusals.specs.Tables.{ids_checked}
use Rattle.score_tables.specs.Rows.{one, four, scores_short, path_short, sixes}

-- 4 | "a scored path longer than its table" | "0 for a single line"
abbrev pub path_longer : ℕ → ℕ → Checked
path_longer words count = refuse 4 0 (ltb words count)

-- 5 | "label at or above L" | "index in its table"
abbrev pub five : ℕ → List ℕ → ℕ → Checked
five labels path count = ids_checked path count labels

-- what can be said before a table is read: "a call that takes T as a number tests 4 right after 1", then 2
abbrev pub sizes : ℕ → ℕ → List Float → List Float → List ℕ → ℕ → List Checked
sizes labels words transitions states path count =
    one labels
    ∷ four words
    ∷ path_longer words count
    ∷ scores_short labels words transitions states
    ∷ path_short count path
    ∷ []

unfoldable pub path_sized : ℕ → ℕ → List Float → List Float → List ℕ → ℕ → Checked
path_sized labels words transitions states path count = first (sizes labels words transitions states path count)

-- "The lowest number wins": then 5, then 6
unfoldable pub path_checked : ℕ → ℕ → List Float → List Float → List ℕ → ℕ → Checked
path_checked labels words transitions states path count =
    first
    (sizes labels words transitions states path count
    ++ (five labels path count
    ∷ sixes labels words transitions states))
