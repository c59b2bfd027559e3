-- Document 01, "Numbered refusals", the rows of a trainer, and their order: 1, 2, 3, 4, 5, 6, 7. Assumes nothing.
use Rattle.std.specs.Prelude.{List, [], ◌∷◌, ◌++◌, ℕ, ◌+◌, length}
use Rattle.refusals.specs.Refusals.{Checked, first}
use Rattle.refusals.specs.Bounds.{the_instances, the_words, the_attributes, word_table, attribute_table, reference_table, instance_weight_table}
use Rattle.score_tables.specs.Rows.{one}
use Rattle.refusal_rows.specs.Limits.{Limit, count, room, two}
use Rattle.refusal_rows.specs.Tests.{Test, starts_rise, lines_fit, ids_below, numbers_finite, checks}
use Rattle.lines.specs.Tables.{Model}
use Rattle.feature_gen.specs.Rows.{model_counts, model_rooms, start_tests, id_tests}
use Rattle.line_check.specs.Rows.{line_rooms, value_tests}
use Rattle.lines.specs.Data.{Data}
use Rattle.parameters.specs.Parameters.{Parameter, sevens}
use Rattle.training_check.specs.declared.Lent.{Lent}

-- what every trainer is given: "Feature counts and trainers are lent no weight table"
pub record Input : Type 0 where
  pub model : Model
  pub corpus : Data
  pub lent : Lent

-- ---- 2 | "a count other than L, T and epochs outside its bound" | 0

-- "Instances N", "words in all", "attributes in all"
abbrev pub total_limits : (instances words attributes : ℕ) → List Limit
total_limits instances words attributes =
    count the_instances instances
    ∷ count the_words words
    ∷ count the_attributes attributes
    ∷ []

abbrev pub data_counts : Data → List Limit
data_counts d = total_limits d.instances d.count d.words.size

abbrev pub input_counts : Input → List Limit
input_counts g = model_counts g.model ++ data_counts g.corpus

-- ---- 2 | "a lent buffer too short" | 0, in the order of the call's slices

-- the instances; their words and attributes have the rooms of a line of so many words
abbrev pub data_rooms : Data → List Limit
data_rooms d =
    (room (length d.starts) (d.instances + 1) ∷ [])
    ++ line_rooms d.count d.words
    ++ (room (length d.references) d.count
    ∷ room (length d.weights) d.instances
    ∷ [])

-- the result and work buffers
abbrev pub lent_rooms : ℕ → ℕ → Lent → List Limit
lent_rooms features instances lent =
    room lent.weights features
    ∷ room lent.beside features
    ∷ room lent.truly features
    ∷ room lent.predicted features
    ∷ room lent.order instances
    ∷ []

abbrev pub input_rooms : Input → List Limit
input_rooms g =
    model_rooms g.model
    ++ data_rooms g.corpus
    ++ lent_rooms g.model.features.count g.corpus.instances g.lent

-- ---- 3 | "a rule of starts is broken" | "index of the first bad start": "attribute lists; label lists; words; attributes"

abbrev pub input_starts : Input → List Test
input_starts g =
    start_tests g.model
    ++ (starts_rise word_table g.corpus.starts g.corpus.instances g.corpus.count
    ∷ starts_rise attribute_table g.corpus.words.starts g.corpus.count g.corpus.words.size
    ∷ [])

-- ---- 4 | "a T outside 1 to 128" | "instance index"

abbrev pub length_tests : Data → List Test
length_tests d = lines_fit d.starts d.instances ∷ []

-- ---- 5 | ".. label at or above L" | "index in its table": after the model's own rows the reference labels

abbrev pub input_ids : Input → List Test
input_ids g = id_tests g.model ++ ids_below reference_table g.corpus.references g.corpus.count g.model.labels ∷ []

-- ---- 6 | "a .. value, instance weight .. not finite" | "index in its table": "attributes; .. instance weights"

abbrev pub input_numbers : Data → List Test
input_numbers d = value_tests d.words ++ numbers_finite instance_weight_table d.weights d.instances ∷ []

-- ---- the order: "The lowest number wins"

-- 1 to 6, which every trainer shares
abbrev pub input_rows : Input → List Checked
input_rows g =
    one g.model.labels
    ∷ two (input_counts g)
    ∷ two (input_rooms g)
    ∷ checks (input_starts g)
    ++ checks (length_tests g.corpus)
    ++ checks (input_ids g)
    ++ checks (input_numbers g.corpus)

-- then 7: a trainer with these parameters of its own
unfoldable pub training_checked : Input → List Parameter → Checked
training_checked g parameters = first (input_rows g ++ sevens parameters)
