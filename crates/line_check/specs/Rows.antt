-- Document 01, "Numbered refusals", the rows of a call on a single line, and their order: 1, 4, 2, 3, 5, 6. Assumes nothing.
use Rattle.std.specs.Prelude.{List, [], ◌∷◌, ◌++◌, ℕ, ◌+◌, ◌*◌, length, Float}
use Rattle.refusals.specs.Refusals.{Checked, first}
use Rattle.refusals.specs.Bounds.{the_attributes, attribute_table, reference_table}
use Rattle.score_tables.specs.Rows.{one, four}
use Rattle.refusal_rows.specs.Limits.{Limit, count, room, two}
use Rattle.refusal_rows.specs.Tests.{Test, starts_rise, ids_below, numbers_finite, checks}
use Rattle.lines.specs.Tables.{Model, Words}
use Rattle.feature_gen.specs.Rows.{model_counts, model_rooms, weighted_rooms, start_tests, id_tests, weight_tests}

-- what a call that scores a line is given: T, the line's attributes by words, and how long the buffers for the scores are
pub record Scoring : Type 0 where
  pub model : Model
  pub weights : List Float
  pub words : ℕ
  pub line : Words
  pub transitions : ℕ
  pub states : ℕ

-- what a call that counts features is given: a label for each word, and how long the buffer for the counts is; "Feature counts .. are lent no weight table"
pub record Counting : Type 0 where
  pub model : Model
  pub words : ℕ
  pub line : Words
  pub path : List ℕ
  pub features : ℕ

-- ---- 2 | "a count other than L, T and epochs outside its bound" | 0

-- the model's counts, and the line's attributes
abbrev pub line_counts : Model → Words → List Limit
line_counts m line = model_counts m ++ count the_attributes line.size ∷ []

abbrev pub scoring_counts : Scoring → List Limit
scoring_counts s = line_counts s.model s.line

abbrev pub counting_counts : Counting → List Limit
counting_counts c = line_counts c.model c.line

-- ---- 2 | "a lent buffer too short" | 0, in the order of the call's slices

-- the line: "for n lists, n+1 starts"
abbrev pub line_rooms : ℕ → Words → List Limit
line_rooms words line =
    room (length line.starts) (words + 1)
    ∷ room (length line.ids) line.size
    ∷ room (length line.values) line.size
    ∷ []

-- the buffers for the scores: L·L transitions, T·L states
abbrev pub score_rooms : ℕ → ℕ → ℕ → ℕ → List Limit
score_rooms labels words transitions states =
    room transitions (labels * labels)
    ∷ room states (words * labels)
    ∷ []

abbrev pub scoring_rooms : Scoring → List Limit
scoring_rooms s =
    weighted_rooms s.model s.weights
    ++ line_rooms s.words s.line
    ++ score_rooms s.model.labels s.words s.transitions s.states

-- the labels, and the buffer for the counts
abbrev pub count_rooms : Counting → List Limit
count_rooms c =
    room (length c.path) c.words
    ∷ room c.features c.model.features.count
    ∷ []

abbrev pub counting_rooms : Counting → List Limit
counting_rooms c =
    model_rooms c.model
    ++ line_rooms c.words c.line
    ++ count_rooms c

-- ---- 3 | "a rule of starts is broken" | "index of the first bad start": attribute lists, label lists, then the line's attributes

abbrev pub line_starts : Model → ℕ → List ℕ → ℕ → List Test
line_starts m words starts attributes = start_tests m ++ starts_rise attribute_table starts words attributes ∷ []

-- ---- 5 | "label at or above L" | "index in its table", after the model's own rows

abbrev pub label_tests : Counting → List Test
label_tests c = ids_below reference_table c.path c.words c.model.labels ∷ []

-- ---- 6 | "a weight, value .. not finite" | "index in its table"

abbrev pub value_tests : Words → List Test
value_tests line = numbers_finite attribute_table line.values line.size ∷ []

-- ---- the order: "a call that takes T as a number tests 4 right after 1"

unfoldable pub scoring_checked : Scoring → Checked
scoring_checked s =
    first
    (one s.model.labels
    ∷ four s.words
    ∷ two (scoring_counts s)
    ∷ two (scoring_rooms s)
    ∷ checks (line_starts s.model s.words s.line.starts s.line.size)
    ++ checks (id_tests s.model)
    ++ checks (weight_tests s.model s.weights ++ value_tests s.line))

unfoldable pub counting_checked : Counting → Checked
counting_checked c =
    first
    (one c.model.labels
    ∷ four c.words
    ∷ two (counting_counts c)
    ∷ two (counting_rooms c)
    ∷ checks (line_starts c.model c.words c.line.starts c.line.size)
    ++ checks (id_tests c.model ++ label_tests c)
    ++ checks (value_tests c.line))
