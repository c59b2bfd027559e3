-- What lies behind the needed fronts of lent tables is not written: the proofs are in proofs/Tails.
use Rattle.std.specs.Prelude.{◌≡◌, List, ◌++◌, ℕ, ◌+◌, ◌≤◌, ◌<◌, length, get_or}
use Rattle.lines.specs.Passes.{start, size}
use Rattle.refusals.specs.Meaning.{Starts}
use Rattle.layout.specs.Layout.{Word, sequences, NoneEmpty}
use Rattle.text_tables.specs.Tables.{Strings, tables}
use Rattle.text_tables.specs.Written.{Unwritten, unwritten, sequences_in, written_lines}
use Rattle.text_tables.specs.RoundTrip.{Amounts}

-- what lies behind each table
pub record Tails : Type 0 where
  pub line_starts : List ℕ
  pub word_starts_of : List ℕ
  pub ids : List ℕ
  pub references : List ℕ
  pub labels : Strings
  pub names : Strings
  pub scales : Strings

abbrev pub strings_with : Strings → Strings → Strings
strings_with s tail = record { starts = s.starts ++ tail.starts; bytes = s.bytes ++ tail.bytes }

-- the same tables, lent stringsWith
abbrev pub lent_with : Unwritten → Tails → Unwritten
lent_with t tails = record {
  instances = t.instances;
  line_starts = t.line_starts ++ tails.line_starts;
  word_starts_of = t.word_starts_of ++ tails.word_starts_of;
  ids = t.ids ++ tails.ids;
  references = t.references ++ tails.references;
  labels = strings_with t.labels tails.labels;
  names = strings_with t.names tails.names;
  scales = strings_with t.scales tails.scales;
}

-- n strings that end within their bytes
pub record StringsWithin (s : Strings) (n : ℕ) : Type 0 where
  pub starts : n < length s.starts
  pub bytes : (i : ℕ) → i < n → start s.starts i + size s.starts i ≤ length s.bytes

-- tables that have what their counts say
pub record TablesWithin (t : Unwritten) (n : Amounts) : Type 0 where
  pub lines : Starts t.line_starts t.instances n.words
  pub line_starts : t.instances < length t.line_starts
  pub words : Starts t.word_starts_of n.words n.attributes
  pub word_starts_of : n.words < length t.word_starts_of
  pub ids : n.attributes ≤ length t.ids
  pub named : (a : ℕ) → a < n.attributes → get_or t.ids a 0 < n.names
  pub references : n.words ≤ length t.references
  pub labelled : (w : ℕ) → w < n.words → get_or t.references w 0 < n.labels
  pub labels : StringsWithin t.labels n.labels
  pub names : StringsWithin t.names n.names
  pub scales : StringsWithin t.scales n.attributes

abbrev pub TailsUnread : Type 0
TailsUnread = (t : Unwritten) (n : Amounts) → TablesWithin t n → (tails : Tails) → sequences_in (lent_with t tails) ≡ sequences_in t

-- "what it writes of tables that the reader filled reads back to the same tables", whatever lies behind their fronts
abbrev pub LentReadsBack : Type 0
LentReadsBack = (ss : List (List Word)) → NoneEmpty ss → (tails : Tails) → tables (sequences (written_lines (lent_with (unwritten (tables ss)) tails))) ≡ tables ss
