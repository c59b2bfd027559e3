-- Document 01, "Numbered refusals", row by row for decoding a line, and their order. Assumes nothing.
use Rattle.std.specs.Prelude.{List, ◌∷◌, ℕ, Float}
use Rattle.refusals.specs.Refusals.{Checked, first}
use Rattle.score_tables.specs.Rows.{one, four, scores_short, path_short, sixes}

-- "The lowest number wins, but a call that takes T as a number tests 4 right after 1": 1, 4, 2, 6
unfoldable pub decode_checked : ℕ → ℕ → List Float → List Float → List ℕ → Checked
decode_checked labels words transitions states path =
    first
    (one labels
    ∷ four words
    ∷ scores_short labels words transitions states
    ∷ path_short words path
    ∷ sixes labels words transitions states)
