-- Document 01, "Numbered refusals", row by row for labelling a line, and their order: 1, 4, 2, 3, 5, 6. Row 8 is that of its scores. Assumes nothing.
use Rattle.std.specs.Prelude.{List, [], ◌∷◌, ◌++◌, ℕ}
use Rattle.refusals.specs.Refusals.{Checked, first}
use Rattle.score_tables.specs.Rows.{one, four}
use Rattle.refusal_rows.specs.Limits.{Limit, room, two}
use Rattle.refusal_rows.specs.Tests.{checks}
use Rattle.feature_gen.specs.Rows.{weighted_rooms, id_tests, weight_tests}
use Rattle.line_check.specs.Rows.{line_counts, line_rooms, line_starts, value_tests}
use Rattle.compute_scores.specs.Promise.{Given}

-- 2 | "a count .. outside its bound" | 0
abbrev pub label_counts : Given → List Limit
label_counts given = line_counts given.model given.line

-- 2 | "a lent buffer too short" | 0: the model with its weights, the line, and T labels of the path
abbrev pub label_rooms : Given → ℕ → List Limit
label_rooms given path =
    weighted_rooms given.model given.weights
    ++ line_rooms given.words given.line
    ++ (room path given.words ∷ [])

-- for a path's buffer of this length
unfoldable pub label_checked : Given → ℕ → Checked
label_checked given path =
    first
    (one given.model.labels
    ∷ four given.words
    ∷ two (label_counts given)
    ∷ two (label_rooms given path)
    ∷ checks (line_starts given.model given.words given.line.starts given.line.size)
    ++ checks (id_tests given.model)
    ++ checks (weight_tests given.model given.weights ++ value_tests given.line))
