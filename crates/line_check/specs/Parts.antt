-- The rows of a call on a single line in the parts that are checked apart: what the narrow checks promise. Assumes nothing.
use Rattle.std.specs.Prelude.{List, [], ◌∷◌, ℕ, length}
use Rattle.refusals.specs.Refusals.{Checked}
use Rattle.refusals.specs.Bounds.{the_attributes, attribute_table, reference_table}
use Rattle.refusal_rows.specs.Limits.{Limit, count, room, two}
use Rattle.refusal_rows.specs.Tests.{Test, starts_rise, ids_below}
use Rattle.refusal_rows.specs.Parts.{part_checked}
use Rattle.lines.specs.Tables.{Words}
use Rattle.line_check.specs.Rows.{line_rooms, value_tests}

-- 2, 3 and 6 of so many words in flat tables: those of a line, or those of all lines of a trainer
abbrev pub line_limits : ℕ → Words → List Limit
line_limits words line = count the_attributes line.size ∷ line_rooms words line

abbrev pub line_tests : ℕ → Words → List Test
line_tests words line = starts_rise attribute_table line.starts words line.size ∷ value_tests line

unfoldable pub line_sized : ℕ → Words → Checked
line_sized words line = two (line_limits words line)

unfoldable pub line_checked : ℕ → Words → Checked
line_checked words line = part_checked (line_limits words line) (line_tests words line)

-- 2 and 5 of a label for each of so many words
unfoldable pub labels_checked : ℕ → ℕ → List ℕ → Checked
labels_checked labels words path = part_checked (room (length path) words ∷ []) (ids_below reference_table path words labels ∷ [])
