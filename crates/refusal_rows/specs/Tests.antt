-- Rows 3 to 6 of document 01's table as lists of tests, each of one table: what a test refuses, and which places are bad in plain terms. Assumes nothing.
use Rattle.std.specs.Prelude.{◌≡◌, Bool, true, false, ◌&&◌, List, [], ◌∷◌, ◌⊎◌, ℕ, ◌+◌, ◌-◌, ◌<◌, ◌≤◌, leb, get_or, Float}
use Rattle.std.specs.Float.{nan}
use Rattle.std.specs.Float.Ieee.Scale.{finite}
use Rattle.refusals.specs.Refusals.{Checked, lowest}
use Rattle.refusals.specs.Tables.{starts_checked, kinds_checked, ids_checked, sources_checked, numbers_checked}
use Rattle.refusals.specs.Bounds.{Table, word_table, table_position, the_line_words, outside_its}
use Rattle.refusals.specs.Meaning.{FirstBad, BadStart}
use Rattle.score_tables.specs.Sound.{WordsIn}

-- how many words an instance has, by the starts of the instances
abbrev pub line_length : List ℕ → ℕ → ℕ
line_length table i = get_or table (i + 1) 0 - get_or table i 0

-- a test of the first n places of one of document 01's tables; of n + 1 starts for n lists
pub data Test : Type 0 where
  -- 3 | "a rule of starts is broken" | "index of the first bad start"
  starts_rise : (which : Table) (table : List ℕ) (n entries : ℕ) → Test
  -- 4 | "a T outside 1 to 128" | "instance index"
  lines_fit : (table : List ℕ) (n : ℕ) → Test
  -- 5 | "kind not 0 or 1" | "index in its table"
  kinds_known : (which : Table) (table : List ℕ) (n : ℕ) → Test
  -- 5 | "destination at or above L", "list id at or above F", "label at or above L" | "index in its table"
  ids_below : (which : Table) (table : List ℕ) (n bound : ℕ) → Test
  -- 5 | "Transition source at or above L" | "index in its table"
  sources_below : (which : Table) (kinds table : List ℕ) (n labels : ℕ) → Test
  -- 6 | "a weight, value, instance weight or table entry not finite" | "index in its table"
  numbers_finite : (which : Table) (table : List Float) (n : ℕ) → Test

-- the T of instance i is outside 1 to 128
abbrev pub bad_length : List ℕ → ℕ → Bool
bad_length table i = outside_its the_line_words (line_length table i)

abbrev pub lengths_checked : List ℕ → ℕ → Checked
lengths_checked table n = lowest 4 (bad_length table) n

-- what a test refuses
abbrev pub checked : Test → Checked
checked (starts_rise which table n entries) = starts_checked table n entries
checked (lines_fit table n) = lengths_checked table n
checked (kinds_known which table n) = kinds_checked table n
checked (ids_below which table n bound) = ids_checked table n bound
checked (sources_below which kinds table n labels) = sources_checked kinds table n labels
checked (numbers_finite which table n) = numbers_checked table n

abbrev pub checks : List Test → List Checked
checks [] = []
checks (test ∷ tests) = checked test ∷ checks tests

-- the table that a test is of, and whether tests are in the order of the tables: a test that computes
abbrev pub table_of : Test → Table
table_of (starts_rise which table n entries) = which
table_of (lines_fit table n) = word_table
table_of (kinds_known which table n) = which
table_of (ids_below which table n bound) = which
table_of (sources_below which kinds table n labels) = which
table_of (numbers_finite which table n) = which

abbrev pub tables_from : ℕ → List Test → Bool
tables_from least [] = true
tables_from least (test ∷ tests) = leb least (table_position (table_of test)) && tables_from (table_position (table_of test) + 1) tests

abbrev pub in_table_order : List Test → Bool
in_table_order tests = tables_from 0 tests

-- ---- the same in plain terms

abbrev pub number_of : Test → ℕ
number_of (starts_rise which table n entries) = 3
number_of (lines_fit table n) = 4
number_of (kinds_known which table n) = 5
number_of (ids_below which table n bound) = 5
number_of (sources_below which kinds table n labels) = 5
number_of (numbers_finite which table n) = 6

-- how many places are looked at, and which of them are bad
abbrev pub places : Test → ℕ
places (starts_rise which table n entries) = n + 1
places (lines_fit table n) = n
places (kinds_known which table n) = n
places (ids_below which table n bound) = n
places (sources_below which kinds table n labels) = n
places (numbers_finite which table n) = n

abbrev pub Bad : Test → ℕ → Type 0
Bad (starts_rise which table n entries) i = BadStart table n entries i
Bad (lines_fit table n) i = WordsIn (line_length table i) → ⊥
Bad (kinds_known which table n) i = (get_or table i 0 ≡ 0 → ⊥) × (get_or table i 0 ≡ 1 → ⊥)
Bad (ids_below which table n bound) i = bound ≤ get_or table i 0
Bad (sources_below which kinds table n labels) i = (get_or kinds i 0 ≡ 1) × (labels ≤ get_or table i 0)
Bad (numbers_finite which table n) i = finite (get_or table i nan) ≡ false

-- no place that is looked at is bad
abbrev pub Good : Test → Type 0
Good test = (i : ℕ) → i < places test → Bad test i → ⊥

abbrev pub AllGood : List Test → Type 0
AllGood [] = Unit
AllGood (test ∷ tests) = Good test × AllGood tests

-- "In each .. the lowest index": the first bad place of the first table that has one
abbrev pub FirstBadOf : List Test → ℕ → Type 0
FirstBadOf [] place = ⊥
FirstBadOf (test ∷ tests) place = FirstBad (Bad test) (places test) place ⊎ (Good test × FirstBadOf tests place)
