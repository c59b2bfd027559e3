-- Document 01, "Numbered refusals", the rows that concern the score tables of one line, and their order. Assumes nothing.
use Rattle.std.specs.Prelude.{◌||◌, List, [], ◌∷◌, ℕ, ◌*◌, length, Float}
use Rattle.refusals.specs.Refusals.{Checked, first, refuse}
use Rattle.refusals.specs.Tables.{short, numbers_checked}
use Rattle.refusals.specs.Bounds.{the_labels, the_line_words, outside_its}

-- 1 | "L outside its bound" | 0
abbrev pub one : ℕ → Checked
one labels = refuse 1 0 (outside_its the_labels labels)

-- 4 | "a T outside 1 to 128" | "0 for a single line"
abbrev pub four : ℕ → Checked
four words = refuse 4 0 (outside_its the_line_words words)

-- 2 | "a lent buffer too short": L·L transitions, T·L states | 0
abbrev pub scores_short : ℕ → ℕ → List Float → List Float → Checked
scores_short labels words transitions states =
    refuse 2 0 (short (length transitions) (labels * labels) || short (length states) (words * labels))

-- 2 | "a lent buffer too short": a path of so many labels | 0
abbrev pub path_short : ℕ → List ℕ → Checked
path_short count path = refuse 2 0 (short (length path) count)

-- 6 | "a .. table entry not finite": "transitions; states" | "index in its table"
abbrev pub sixes : ℕ → ℕ → List Float → List Float → List Checked
sixes labels words transitions states =
    numbers_checked transitions (labels * labels)
    ∷ numbers_checked states (words * labels)
    ∷ []

-- "a call that takes T as a number tests 4 right after 1"
abbrev pub bounds_checked : ℕ → ℕ → Checked
bounds_checked labels words = first (one labels ∷ four words ∷ [])
