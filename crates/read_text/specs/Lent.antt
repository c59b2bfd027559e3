-- What the reader is lent, as its contract names it. Assumes nothing.
use Rattle.std.specs.Prelude.{List, ℕ, Float}
use Rattle.read_text.specs.Promise.{Buffers}

-- the tables, at a call's entry or at its end
abbrev pub buffers_of : (line_starts word_starts_of ids : List ℕ) (values : List Float) (references : List ℕ) (weights : List Float) (label_starts_of label_bytes_of name_starts_of name_bytes_of scale_starts_of scale_bytes_of : List ℕ) → Buffers
buffers_of line_starts word_starts_of ids values references weights label_starts_of label_bytes_of name_starts_of name_bytes_of scale_starts_of scale_bytes_of = record {
  line_starts = line_starts;
  word_starts_of = word_starts_of;
  ids = ids;
  values = values;
  references = references;
  weights = weights;
  label_starts_of = label_starts_of;
  label_bytes_of = label_bytes_of;
  name_starts_of = name_starts_of;
  name_bytes_of = name_bytes_of;
  scale_starts_of = scale_starts_of;
  scale_bytes_of = scale_bytes_of;
}
