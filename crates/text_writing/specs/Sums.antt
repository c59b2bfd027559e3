-- The length of what is written, place by place. Assumes nothing.
use Rattle.std.specs.Prelude.{List, map, ℕ, ◌+◌, ◌≤◌, ◌<◌, length, get_or}
use Rattle.refusals.specs.Meaning.{Starts}
use Rattle.layout.specs.Layout.{escaped, scale_text}
use Rattle.text_tables.specs.Tables.{Strings}
use Rattle.text_tables.specs.Written.{Unwritten, string_at, places_from, in_all}
use Rattle.text_writing.specs.Ready.{StringStands, AttributeStands}

-- so many bytes at each of the first n places
unfoldable pub sum_to : (ℕ → ℕ) → ℕ → ℕ
sum_to g n = in_all (map g (places_from 0 n))

-- a word's label and its line feed
abbrev pub label_bytes_of : List ℕ → Strings → ℕ → ℕ
label_bytes_of references labels w = length (escaped (string_at labels (get_or references w 0))) + 1

-- an attribute's tab, its name, and its kept text
abbrev pub attribute_size : List ℕ → Strings → Strings → ℕ → ℕ
attribute_size ids names scales a = 1 + (length (escaped (string_at names (get_or ids a 0))) + length (scale_text (string_at scales a)))

-- word w has a label, whose name stands
pub record LabelStands (references : List ℕ) (labels : Strings) (w : ℕ) : Type 0 where
  pub inside : w < length references
  pub label : StringStands labels (get_or references w 0)

-- tables within their bounds, whose starts rise, and which have what their counts say
pub record Measurable (t : Unwritten) (words attributes : ℕ) : Type 0 where
  pub few_instances : t.instances ≤ 16384
  pub few_words : words ≤ 1048576
  pub few_attributes : attributes ≤ 4194304
  pub lines : Starts t.line_starts t.instances words
  pub begins : Starts t.word_starts_of words attributes
  pub labelled : (w : ℕ) → w < words → LabelStands t.references t.labels w
  pub marked : (a : ℕ) → a < attributes → AttributeStands t.ids t.names t.scales a
