-- Document 01, "Numbered refusals", row by row for a sheet, in the order of the sheet. Assumes nothing.
use Rattle.std.specs.Prelude.{Bool, not, ◌||◌, List, [], ◌∷◌, ◌++◌, ℕ, ltb, eqb, length, get_or, Float}
use Rattle.refusals.specs.Refusals.{Checked, first, refuse}
use Rattle.score_tables.specs.Rows.{one, four, scores_short, sixes}
use Rattle.sheet.specs.Fields.{version_in_of, labels_in_of, words_in, whole_length_of, transitions_in_of, states_in_of}

-- what the call is given: the file's bytes
pub record Given : Type 0 where
  pub bytes : List ℕ

-- what it is lent: the tables that it fills
pub record Lent : Type 0 where
  pub transitions : List Float
  pub states : List Float

-- "wrong mark, version", or not "the eight bytes of head"
abbrev pub wrong_head : List ℕ → Bool
wrong_head bytes =
    ltb (length bytes) 8
    || not (eqb (get_or bytes 0 0) 84)
    || not (eqb (get_or bytes 1 0) 76)
    || not (eqb (get_or bytes 2 0) 71)
    || not (eqb (version_in_of bytes) 1)

-- "wrong .. length": the head, the transitions and the states, "nothing after"
abbrev pub wrong_length : List ℕ → Bool
wrong_length bytes = not (eqb (length bytes) (whole_length_of bytes))

-- ---- the rows, in their order: "Check 10 on mark, version and the eight bytes of head, then 1, 4, then 10 on length, then 6"

-- "10 on mark, version and the eight bytes of head, then 1, 4"
abbrev pub head_rows : List ℕ → List Checked
head_rows bytes = refuse 10 0 (wrong_head bytes) ∷ one (labels_in_of bytes) ∷ four (words_in bytes) ∷ []

-- "then 10 on length"; the row of 2, for what is lent, stands after 4
abbrev pub size_rows : List ℕ → Checked → List Checked
size_rows bytes room = room ∷ refuse 10 0 (wrong_length bytes) ∷ []

-- "then 6"
abbrev pub entry_rows : List ℕ → List Checked
entry_rows bytes = sixes (labels_in_of bytes) (words_in bytes) (transitions_in_of bytes) (states_in_of bytes)

-- as far as 10 on length, and all of them; the row of 2 belongs to what a call is lent
unfoldable pub file_sized : List ℕ → Checked → Checked
file_sized bytes room = first (head_rows bytes ++ size_rows bytes room)

unfoldable pub file_checked : List ℕ → Checked → Checked
file_checked bytes room = first (head_rows bytes ++ (size_rows bytes room ++ entry_rows bytes))

-- ---- the reader's rows: 2 for the two tables that it is lent

abbrev pub tables_short : List ℕ → Lent → Checked
tables_short bytes before = scores_short (labels_in_of bytes) (words_in bytes) before.transitions before.states

abbrev pub sheet_checked : Given → Lent → Checked
sheet_checked given before = file_checked given.bytes (tables_short given.bytes before)
