-- The rows of a model in the parts that are checked apart, since not every call is lent weights: what the narrow checks promise. Assumes nothing.
use Rattle.std.specs.Prelude.{List, [], ◌∷◌, ◌++◌, ℕ, length, Float}
use Rattle.refusals.specs.Refusals.{Checked}
use Rattle.refusals.specs.Bounds.{Table}
use Rattle.refusal_rows.specs.Limits.{Limit, room, two}
use Rattle.refusal_rows.specs.Tests.{Test, numbers_finite}
use Rattle.refusal_rows.specs.Parts.{part_checked}
use Rattle.lines.specs.Tables.{Model}
use Rattle.feature_gen.specs.Rows.{model_counts, weight_rooms, model_rooms, start_tests, id_tests, weight_tests}

-- 2, 3 and 5 of the tables
abbrev pub table_limits : Model → List Limit
table_limits m = model_counts m ++ model_rooms m

abbrev pub table_tests : Model → List Test
table_tests m = start_tests m ++ id_tests m

unfoldable pub tables_sized_of : Model → Checked
tables_sized_of m = two (table_limits m)

unfoldable pub tables_checked : Model → Checked
tables_checked m = part_checked (table_limits m) (table_tests m)

-- 2 and 6 of the table of so many weights: those of the features, or those of a trainer's instances
unfoldable pub weights_checked : Table → ℕ → List Float → Checked
weights_checked which n weights = part_checked (room (length weights) n ∷ []) (numbers_finite which weights n ∷ [])

-- of both
abbrev pub weighted_limits : Model → List Float → List Limit
weighted_limits m weights = table_limits m ++ weight_rooms m.features weights

abbrev pub weighted_tests : Model → List Float → List Test
weighted_tests m weights = table_tests m ++ weight_tests m weights

unfoldable pub weighted_checked : Model → List Float → Checked
weighted_checked m weights = part_checked (weighted_limits m weights) (weighted_tests m weights)
