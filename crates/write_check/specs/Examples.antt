-- Desk case T7, computed: the writer's answers to the tables of T1, and to tables that differ from them in one place. Assumes nothing.
use Rattle.std.specs.Prelude.{◌≡◌, refl, true, ℕ, length, Ok}
use mathlib.Core.List.{List, [], ◌∷◌, flatten}
use Rattle.refusals.specs.Refusals.{refused_at, refuse, or_next_of, lowest}
use Rattle.refusal_rows.specs.Limits.{in_order_of}
use Rattle.refusal_rows.specs.Tests.{in_table_order}
use Rattle.layout.specs.Layout.{escaped, scale_text, attributes_text, line_text, more_lines, text_of}
use Rattle.text_tables.specs.Tables.{Strings}
use Rattle.text_tables.specs.Written.{string_at, places_from, all_lines}
use Rattle.text_writing.specs.Ready.{strings, lent_tables}
use Rattle.write_check.specs.Carry.{unclean, no_scale_from, behind_minus}
use Rattle.write_check.specs.Rows.{Unchecked, written_counts, written_starts, written_ids, write_checked}

-- T1's tables with these ids, label names, attribute names and kept texts
abbrev t1_with : List ℕ → Strings → Strings → Strings → Unchecked
t1_with ids labels names scales = record {
  labels = 2;
  words = 3;
  attributes = 3;
  names = 2;
  label_bytes_of = length labels.bytes;
  name_bytes_of = length names.bytes;
  scale_bytes_of = length scales.bytes;
  tables = lent_tables 2 (0 ∷ 2 ∷ 3 ∷ []) (0 ∷ 2 ∷ 2 ∷ 3 ∷ []) ids (0 ∷ 1 ∷ 0 ∷ []) labels names scales;
}

abbrev ids1 : List ℕ
ids1 = 0 ∷ 1 ∷ 1 ∷ []

abbrev labels1 : Strings
labels1 = strings (0 ∷ 1 ∷ 2 ∷ []) (65 ∷ 66 ∷ [])

abbrev names1 : Strings
names1 = strings (0 ∷ 1 ∷ 2 ∷ []) (97 ∷ 98 ∷ [])

abbrev scales1 : Strings
scales1 = strings (0 ∷ 3 ∷ 3 ∷ 5 ∷ []) (48 ∷ 46 ∷ 53 ∷ 45 ∷ 48 ∷ [])

-- "a text of 20 bytes 2/0, of 21 accepted"
short_text : write_checked (t1_with ids1 labels1 names1 scales1) 20 ≡ refused_at 2 0
unfolding write_checked lowest or_next_of refuse unclean no_scale_from behind_minus string_at places_from all_lines text_of more_lines line_text attributes_text escaped scale_text flatten
short_text = refl

long_text : write_checked (t1_with ids1 labels1 names1 scales1) 21 ≡ Ok tt
unfolding write_checked lowest or_next_of refuse unclean no_scale_from behind_minus string_at places_from all_lines text_of more_lines line_text attributes_text escaped scale_text flatten
long_text = refl

-- "label name B made a tab: 11/1"
tab_label : write_checked (t1_with ids1 (strings (0 ∷ 1 ∷ 2 ∷ []) (65 ∷ 9 ∷ [])) names1 scales1) 21 ≡ refused_at 11 1
unfolding write_checked lowest or_next_of refuse unclean no_scale_from behind_minus string_at places_from all_lines text_of more_lines line_text attributes_text escaped scale_text flatten
tab_label = refl

-- "label name B empty and attribute name a a line feed: 11/1"
empty_label : write_checked (t1_with ids1 (strings (0 ∷ 1 ∷ 1 ∷ []) (65 ∷ [])) (strings (0 ∷ 1 ∷ 2 ∷ []) (10 ∷ 98 ∷ [])) scales1) 21 ≡ refused_at 11 1
unfolding write_checked lowest or_next_of refuse unclean no_scale_from behind_minus string_at places_from all_lines text_of more_lines line_text attributes_text escaped scale_text flatten
empty_label = refl

-- "scale `0.5` made `0.-`: 11/0"
no_scale : write_checked (t1_with ids1 labels1 names1 (strings (0 ∷ 3 ∷ 3 ∷ 5 ∷ []) (48 ∷ 46 ∷ 45 ∷ 45 ∷ 48 ∷ []))) 21 ≡ refused_at 11 0
unfolding write_checked lowest or_next_of refuse unclean no_scale_from behind_minus string_at places_from all_lines text_of more_lines line_text attributes_text escaped scale_text flatten
no_scale = refl

-- "ids 0,2,1: 5/1"
no_name : write_checked (t1_with (0 ∷ 2 ∷ 1 ∷ []) labels1 names1 scales1) 21 ≡ refused_at 5 1
unfolding write_checked lowest or_next_of refuse unclean no_scale_from behind_minus string_at places_from all_lines text_of more_lines line_text attributes_text escaped scale_text flatten
no_name = refl

-- the counts are tested in the order of "Tables and bounds"
counts_in_order : (g : Unchecked) → in_order_of (written_counts g) ≡ true
counts_in_order g = refl

-- and 3 and 5 in the order of the tables, "its name and scale tables after all others"
tables_in_order : (g : Unchecked) → (in_table_order (written_starts g) ≡ true) × (in_table_order (written_ids g) ≡ true)
tables_in_order g = (refl, refl)
