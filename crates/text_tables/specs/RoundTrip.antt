-- What the writer can carry, and that what it writes reads back. The proofs are in proofs/RoundTrip and proofs/Carried.
use Rattle.std.specs.Prelude.{◌≡◌, List, [], ◌∷◌, ℕ, ◌+◌, ◌<◌, length, get_or}
use Rattle.refusals.specs.Meaning.{Starts}
use Rattle.layout.specs.Layout.{Bytes, Word, Line, word, Name, KeptText, SoundTextLine, SoundText, WellFormed, sequences, NoneEmpty}
use Rattle.text_tables.specs.Distinct.{distinct}
use Rattle.text_tables.specs.Tables.{all_words, all_attributes, labels_of, names_of, tables}
use Rattle.text_tables.specs.Written.{Unwritten, unwritten, string_at, sequences_in, written_lines, written_text}

-- how many there are of each
pub record Amounts : Type 0 where
  pub labels : ℕ
  pub names : ℕ
  pub words : ℕ
  pub attributes : ℕ

-- "A name the layout cannot carry: the empty one, and one with a tab or a line feed. .. A scale it cannot carry: a text that is not empty and is no scale":
-- none of these, starts that rise to their counts, and no id or label without a name
pub record Writable (t : Unwritten) (n : Amounts) : Type 0 where
  pub line_starts : Starts t.line_starts t.instances n.words
  pub word_starts_of : Starts t.word_starts_of n.words n.attributes
  pub ids : (a : ℕ) → a < n.attributes → get_or t.ids a 0 < n.names
  pub references : (w : ℕ) → w < n.words → get_or t.references w 0 < n.labels
  pub labels : (i : ℕ) → i < n.labels → Name (string_at t.labels i)
  pub names : (i : ℕ) → i < n.names → Name (string_at t.names i)
  pub scales : (a : ℕ) → a < n.attributes → KeptText (string_at t.scales a)

-- "what it writes is well-formed"
abbrev pub WritesWellFormed : Type 0
WritesWellFormed = (t : Unwritten) (n : Amounts) → Writable t n → WellFormed (written_text t)

-- "and has the same sequences of names and scale texts": in its lines, and in the tables that are read from them
abbrev pub SameSequences : Type 0
SameSequences = (t : Unwritten) → NoneEmpty (sequences_in t) →
    (sequences (written_lines t) ≡ sequences_in t) × (sequences_in (unwritten (tables (sequences (written_lines t)))) ≡ sequences_in t)

-- no sequence is empty where each has a word
abbrev pub EachHasWords : Type 0
EachHasWords = (t : Unwritten) → ((i : ℕ) → i < t.instances → get_or t.line_starts i 0 < get_or t.line_starts (i + 1) 0) → NoneEmpty (sequences_in t)

-- "what it writes of tables that the reader filled reads back to the same tables"
abbrev pub ReadsBack : Type 0
ReadsBack = (ss : List (List Word)) → NoneEmpty ss → tables (sequences (written_lines (unwritten (tables ss)))) ≡ tables ss

-- "for every text that the reader accepts, the writer accepts its tables"
abbrev pub EachSoundWord : List Word → Type 0
EachSoundWord [] = Unit {0}
EachSoundWord (w ∷ ws) = SoundTextLine (word w) × EachSoundWord ws

abbrev pub amounts_of : List (List Word) → Amounts
amounts_of ss =
    let words = all_words ss in
    record {
      labels = length (distinct (labels_of words));
      names = length (distinct (names_of (all_attributes words)));
      words = length words;
      attributes = length (all_attributes words);
    }

abbrev pub ReadIsWritable : Type 0
ReadIsWritable = (ls : List Line) → SoundText ls → Writable (unwritten (tables (sequences ls))) (amounts_of (sequences ls))

-- the same of texts: whatever lines make the text that was read, and whatever lines make the text that was written
abbrev pub TextReadsBack : Type 0
TextReadsBack = (text : Bytes) (h : WellFormed text) →
    let read = tables (sequences h.lines) in
    (k : WellFormed (written_text (unwritten read))) → tables (sequences k.lines) ≡ read
