-- What the writer writes: from tables back to words, and from words to lines, whose text is `text_of`. Assumes nothing.
use Rattle.std.specs.Prelude.{◌≡◌, ℕ, zero, suc, ◌+◌, length, get_or, take, drop}
use mathlib.Core.List.{List, [], ◌∷◌, ◌++◌, map, flatten}
use Rattle.lines.specs.Passes.{start, size}
use Rattle.refusals.specs.Meaning.{Starts}
use Rattle.layout.specs.Layout.{Bytes, TextAttribute, Word, Line, empty, word, escaped, scale_text, text_of}
use Rattle.text_tables.specs.Tables.{Strings, Tables}

-- "It is lent ids and kept texts, and neither values nor shares"
pub record Unwritten : Type 0 where
  pub instances : ℕ
  pub line_starts : List ℕ
  pub word_starts_of : List ℕ
  pub ids : List ℕ
  pub references : List ℕ
  pub labels : Strings
  pub names : Strings
  pub scales : Strings

-- of the reader's tables
abbrev pub unwritten : Tables → Unwritten
unwritten t = record {
  instances = t.corpus.instances;
  line_starts = t.corpus.starts;
  word_starts_of = t.corpus.words.starts;
  ids = t.corpus.words.ids;
  references = t.corpus.references;
  labels = t.labels;
  names = t.names;
  scales = t.scales;
}

-- a string of a list of strings: its bytes from one start to the next
unfoldable pub string_at : Strings → ℕ → Bytes
string_at s i = take (size s.starts i) (drop (start s.starts i) s.bytes)

-- n places from one on, and those of list i
unfoldable pub places_from : ℕ → ℕ → List ℕ
places_from at zero = []
places_from at (suc n) = at ∷ places_from (at + 1) n

abbrev pub places_in : List ℕ → ℕ → List ℕ
places_in starts i = places_from (start starts i) (size starts i)

-- an attribute by its name and its kept text; a word by its label and its attributes; a sequence by its words
abbrev pub attribute_from : Unwritten → ℕ → TextAttribute
attribute_from t a = record { name = string_at t.names (get_or t.ids a 0); scale = string_at t.scales a }

abbrev pub label_from : Unwritten → ℕ → Bytes
label_from t w = string_at t.labels (get_or t.references w 0)

abbrev pub word_from : Unwritten → ℕ → Word
word_from t w = record { label = label_from t w; attributes = map (attribute_from t) (places_in t.word_starts_of w) }

abbrev pub sequence_from : Unwritten → ℕ → List Word
sequence_from t i = map (word_from t) (places_in t.line_starts i)

abbrev pub sequences_in : Unwritten → List (List Word)
sequences_in t = map (sequence_from t) (places_from 0 t.instances)

-- "for each sequence each word as one line, .. one more line feed, an empty line, ends each sequence, the last too"
abbrev pub sequence_lines : List Word → List Line
sequence_lines ws = map word ws ++ (empty ∷ [])

-- "a line feed ends each line": so behind the last there is an empty one
unfoldable pub all_lines : List (List Word) → List Line
all_lines ss = flatten (map sequence_lines ss) ++ (empty ∷ [])

abbrev pub written_lines : Unwritten → List Line
written_lines t = all_lines (sequences_in t)

abbrev pub written_text : Unwritten → Bytes
written_text t = text_of (written_lines t)

-- ---- the same byte by byte: "for each attribute a tab, the escaped name, and, where the kept text is not empty, a colon and that text; a line feed ends
-- each line", and one more each sequence
abbrev pub attribute_text : TextAttribute → Bytes
attribute_text a = 9 ∷ (escaped a.name ++ scale_text a.scale)

abbrev pub word_text : Word → Bytes
word_text w = (escaped w.label ++ flatten (map attribute_text w.attributes)) ++ (10 ∷ [])

abbrev pub sequence_text : List Word → Bytes
sequence_text ws = flatten (map word_text ws) ++ (10 ∷ [])

-- "then a written text is the sum of its sequences"
abbrev pub SumOfSequences : Type 0
SumOfSequences = (ss : List (List Word)) → text_of (all_lines ss) ≡ flatten (map sequence_text ss)

-- ---- its length

-- so many in all
unfoldable pub in_all : List ℕ → ℕ
in_all [] = 0
in_all (n ∷ ns) = n + in_all ns

-- a tab, the escaped name, and the colon with the kept text, where there is one
abbrev pub attribute_length : TextAttribute → ℕ
attribute_length a = 1 + (length (escaped a.name) + length (scale_text a.scale))

abbrev pub word_length : Word → ℕ
word_length w = length (escaped w.label) + in_all (map attribute_length w.attributes) + 1

abbrev pub sequence_length : List Word → ℕ
sequence_length ws = in_all (map word_length ws) + 1

abbrev pub LengthIsSum : Type 0
LengthIsSum = (ss : List (List Word)) → length (text_of (all_lines ss)) ≡ in_all (map sequence_length ss)

-- the same of tables whose starts rise to these counts: sequences, words and attributes one by one, each of them in exactly one list
abbrev pub LengthOfTables : Type 0
LengthOfTables = (t : Unwritten) (words attributes : ℕ) → Starts t.line_starts t.instances words → Starts t.word_starts_of words attributes →
    length (written_text t)
    ≡ t.instances
    + (in_all (map (λ (w : ℕ). length (escaped (label_from t w)) + 1) (places_from 0 words)) + in_all (map (λ (a : ℕ). attribute_length (attribute_from t a)) (places_from 0 attributes)))
