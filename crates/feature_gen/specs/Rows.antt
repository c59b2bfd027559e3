-- Document 01, "Numbered refusals", the rows that concern a model and its weights, and their order. Assumes nothing.
use Rattle.std.specs.Prelude.{List, [], ◌∷◌, ◌++◌, ℕ, ◌+◌, length, Float}
use Rattle.refusals.specs.Refusals.{Checked, first}
use Rattle.refusals.specs.Bounds.{the_features, the_attribute_lists, the_label_lists, the_attribute_entries, the_label_entries, kind_table, destination_table, source_table, weight_table, attribute_list_table, label_list_table}
use Rattle.score_tables.specs.Rows.{one}
use Rattle.refusal_rows.specs.Limits.{Limit, count, room, two}
use Rattle.refusal_rows.specs.Tests.{Test, starts_rise, kinds_known, ids_below, sources_below, numbers_finite, checks}
use Rattle.lines.specs.Tables.{Features, Lists, Model}

-- ---- 2 | "a count other than L, T and epochs outside its bound" | 0

abbrev pub count_limits : (features attribute_lists_of label_lists_of attribute_entries_of label_entries_of : ℕ) → List Limit
count_limits features attribute_lists_of label_lists_of attribute_entries_of label_entries_of =
    count the_features features
    ∷ count the_attribute_lists attribute_lists_of
    ∷ count the_label_lists label_lists_of
    ∷ count the_attribute_entries attribute_entries_of
    ∷ count the_label_entries label_entries_of
    ∷ []

abbrev pub model_counts : Model → List Limit
model_counts m = count_limits m.features.count m.attribute_lists_of.count m.label_lists_of.count m.attribute_lists_of.size m.label_lists_of.size

-- ---- 2 | "a lent buffer too short" | 0, in the order of a call's slices

abbrev pub feature_rooms : Features → List Limit
feature_rooms features =
    room (length features.kinds) features.count
    ∷ room (length features.destinations) features.count
    ∷ room (length features.sources) features.count
    ∷ []

-- where a call is lent weights, they stand behind the sources
abbrev pub weight_rooms : Features → List Float → List Limit
weight_rooms features weights = room (length weights) features.count ∷ []

-- "for n lists, n+1 starts"
abbrev pub list_rooms : Lists → Lists → List Limit
list_rooms attribute_lists_of label_lists_of =
    room (length attribute_lists_of.starts) (attribute_lists_of.count + 1)
    ∷ room (length attribute_lists_of.entries) attribute_lists_of.size
    ∷ room (length label_lists_of.starts) (label_lists_of.count + 1)
    ∷ room (length label_lists_of.entries) label_lists_of.size
    ∷ []

abbrev pub table_rooms : Features → Lists → Lists → List Limit
table_rooms features attribute_lists_of label_lists_of = feature_rooms features ++ list_rooms attribute_lists_of label_lists_of

abbrev pub weighted_table_rooms : Features → List Float → Lists → Lists → List Limit
weighted_table_rooms features weights attribute_lists_of label_lists_of =
    (feature_rooms features ++ weight_rooms features weights) ++ list_rooms attribute_lists_of label_lists_of

abbrev pub model_rooms : Model → List Limit
model_rooms m = table_rooms m.features m.attribute_lists_of m.label_lists_of

abbrev pub weighted_rooms : Model → List Float → List Limit
weighted_rooms m weights = weighted_table_rooms m.features weights m.attribute_lists_of m.label_lists_of

-- 3 | "a rule of starts is broken" | "index of the first bad start"
abbrev pub start_tests : Model → List Test
start_tests m =
    starts_rise attribute_list_table m.attribute_lists_of.starts m.attribute_lists_of.count m.attribute_lists_of.size
    ∷ starts_rise label_list_table m.label_lists_of.starts m.label_lists_of.count m.label_lists_of.size
    ∷ []

-- 5 | "kind not 0 or 1, destination at or above L, Transition source at or above L" | "index in its table"
abbrev pub feature_tests : ℕ → Features → List Test
feature_tests labels features =
    kinds_known kind_table features.kinds features.count
    ∷ ids_below destination_table features.destinations features.count labels
    ∷ sources_below source_table features.kinds features.sources features.count labels
    ∷ []

-- 5 | "list id at or above F" | "index in its table"
abbrev pub entry_tests : Model → List Test
entry_tests m =
    ids_below attribute_list_table m.attribute_lists_of.entries m.attribute_lists_of.size m.features.count
    ∷ ids_below label_list_table m.label_lists_of.entries m.label_lists_of.size m.features.count
    ∷ []

-- 5, in order: "feature kinds, destinations, sources ..; attribute lists; label lists"
abbrev pub id_tests : Model → List Test
id_tests m = feature_tests m.labels m.features ++ entry_tests m

-- 6 | "a weight .. not finite" | "index in its table"
abbrev pub weight_tests : Model → List Float → List Test
weight_tests m weights = numbers_finite weight_table weights m.features.count ∷ []

-- "The lowest number wins": 1, 2 of the counts, 2 of the rooms, 3, 5, 6
unfoldable pub model_checked : Model → List Float → Checked
model_checked m weights =
    first
    (one m.labels
    ∷ two (model_counts m)
    ∷ two (weighted_rooms m weights)
    ∷ checks (start_tests m)
    ++ checks (id_tests m)
    ++ checks (weight_tests m weights))
