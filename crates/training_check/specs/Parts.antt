-- The rows of a trainer in the parts that are checked apart: the model's tables, the instances with what they are made of, the buffers. Assumes nothing.
use Rattle.std.specs.Prelude.{List, [], ◌∷◌, ◌++◌, ℕ, ◌+◌, length}
use Rattle.refusals.specs.Refusals.{Checked, first}
use Rattle.refusals.specs.Bounds.{the_instances, the_words, word_table, attribute_table, reference_table}
use Rattle.refusal_rows.specs.Limits.{Limit, count, room, two}
use Rattle.refusal_rows.specs.Tests.{Test, starts_rise, lines_fit, ids_below}
use Rattle.refusal_rows.specs.Parts.{part_checked}
use Rattle.line_check.specs.Parts.{line_limits}
use Rattle.lines.specs.Data.{Data}
use Rattle.training_check.specs.declared.Lent.{Lent}
use Rattle.training_check.specs.Rows.{Input, lent_rooms, input_numbers, input_rows}

-- 2, 3 and 4 of so many instances, with so many words in all
abbrev pub instance_limits : ℕ → ℕ → List ℕ → List Limit
instance_limits instances words starts =
    count the_instances instances
    ∷ count the_words words
    ∷ room (length starts) (instances + 1)
    ∷ []

abbrev pub instance_tests : ℕ → ℕ → List ℕ → List Test
instance_tests instances words starts =
    starts_rise word_table starts instances words
    ∷ lines_fit starts instances
    ∷ []

unfoldable pub instances_sized : ℕ → ℕ → List ℕ → Checked
instances_sized instances words starts = two (instance_limits instances words starts)

unfoldable pub instances_checked : ℕ → ℕ → List ℕ → Checked
instances_checked instances words starts = part_checked (instance_limits instances words starts) (instance_tests instances words starts)

-- 2 to 6 of the instances, their words, a reference label for each word and a weight for each instance
abbrev pub data_limits : Data → List Limit
data_limits d =
    instance_limits d.instances d.count d.starts
    ++ line_limits d.count d.words
    ++ (room (length d.references) d.count ∷ [])
    ++ (room (length d.weights) d.instances ∷ [])

abbrev pub data_tests : ℕ → Data → List Test
data_tests labels d =
    starts_rise word_table d.starts d.instances d.count
    ∷ starts_rise attribute_table d.words.starts d.count d.words.size
    ∷ lines_fit d.starts d.instances
    ∷ ids_below reference_table d.references d.count labels
    ∷ input_numbers d

unfoldable pub data_checked : ℕ → Data → Checked
data_checked labels d = part_checked (data_limits d) (data_tests labels d)

-- 2 of the result and work buffers
unfoldable pub lent_checked : ℕ → ℕ → Lent → Checked
lent_checked features instances lent = part_checked (lent_rooms features instances lent) []

-- all of it: 1 to 6 alone
unfoldable pub input_checked : Input → Checked
input_checked g = first (input_rows g)
