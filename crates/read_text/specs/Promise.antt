-- What reading a training text promises: the answer, and what the twelve lent tables hold afterwards. It speaks of the lines that make the text; nothing is parsed. Assumes nothing.
use Rattle.refusals.specs.declared.Refusal.{Refusal}
use Rattle.std.specs.Prelude.{◌≡◌, ℕ, length, Float, Ok, Err, Result}
use mathlib.Core.List.{List, flatten}
use Rattle.refusals.specs.Refusals.{Checked, numbered}
use Rattle.refusals.specs.Said.{Said, accepted, refused, or_refused}
use Rattle.layout.specs.Layout.{Bytes, Word, Line, text_of, SoundText, sequences}
use Rattle.layout.specs.Scan.{PlaceOf}
use Rattle.text_tables.specs.Distinct.{distinct}
use Rattle.text_tables.specs.Tables.{Tables, tables, all_words, all_attributes, labels_of, names_of, scales_of}
use Rattle.text_tables.specs.Laid.{laid}
use Rattle.text_check.specs.declared.Lengths.{Lengths}
use Rattle.text_check.specs.Rows.{text_checked}
use Rattle.read_text.specs.declared.TextSizes.{TextSizes}

-- the tables that it is lent, in the call's order: where sequences and words begin, ids, values, reference labels, instance weights, and three lists of byte strings
pub record Buffers : Type 0 where
  pub line_starts : List ℕ
  pub word_starts_of : List ℕ
  pub ids : List ℕ
  pub values : List Float
  pub references : List ℕ
  pub weights : List Float
  pub label_starts_of : List ℕ
  pub label_bytes_of : Bytes
  pub name_starts_of : List ℕ
  pub name_bytes_of : Bytes
  pub scale_starts_of : List ℕ
  pub scale_bytes_of : Bytes

-- the answer, and what they hold afterwards
pub record Outcome : Type 0 where
  pub answer : Result TextSizes Refusal
  pub after : Buffers

abbrev pub said : Result TextSizes Refusal → Said TextSizes
said (Ok sizes) = accepted sizes
said (Err why) = refused why

-- what is counted
abbrev pub sizes_for : List (List Word) → TextSizes
sizes_for ss =
    let words = all_words ss in
    let attributes = all_attributes words in
    record {
      labels = length (distinct (labels_of words));
      names = length (distinct (names_of attributes));
      instances = length ss;
      words = length words;
      attributes = length attributes;
      label_bytes = length (flatten (distinct (labels_of words)));
      name_bytes = length (flatten (distinct (names_of attributes)));
      scale_bytes = length (flatten (scales_of attributes));
    }

abbrev pub lengths_of : Buffers → Lengths
lengths_of before = record {
  lines = length before.line_starts;
  begins = length before.word_starts_of;
  ids = length before.ids;
  values = length before.values;
  references = length before.references;
  weights = length before.weights;
  label_starts = length before.label_starts_of;
  label_bytes = length before.label_bytes_of;
  name_starts = length before.name_starts_of;
  name_bytes = length before.name_bytes_of;
  scale_starts = length before.scale_starts_of;
  scale_bytes = length before.scale_bytes_of;
}

-- 2 and 4, of a text with these sequences
abbrev pub checked_of : Bytes → List (List Word) → Buffers → Checked
checked_of text ss before = text_checked (length text) ss (lengths_of before)

-- "After an accepted call the needed fronts hold the answer and everything behind them what it held"
abbrev pub laid_over : Tables → Buffers → Buffers
laid_over t before = record {
  line_starts = laid t.corpus.starts before.line_starts;
  word_starts_of = laid t.corpus.words.starts before.word_starts_of;
  ids = laid t.corpus.words.ids before.ids;
  values = laid t.corpus.words.values before.values;
  references = laid t.corpus.references before.references;
  weights = laid t.corpus.weights before.weights;
  label_starts_of = laid t.labels.starts before.label_starts_of;
  label_bytes_of = laid t.labels.bytes before.label_bytes_of;
  name_starts_of = laid t.names.starts before.name_starts_of;
  name_bytes_of = laid t.names.bytes before.name_bytes_of;
  scale_starts_of = laid t.scales.starts before.scale_starts_of;
  scale_bytes_of = laid t.scales.bytes before.scale_bytes_of;
}

-- "after every refusal all twelve are as at entry"
abbrev pub holding : Checked → Tables → Buffers → Buffers
holding (Err why) t before = before
holding (Ok _) t before = laid_over t before

-- this answer, and these contents
pub record Yields (answer : Said TextSizes) (contents : Buffers) (outcome : Outcome) : Type 0 where
  pub answers : said outcome.answer ≡ answer
  pub after : outcome.after ≡ contents

-- what reading a text of these sequences comes to: 2 and 4 of them, and their tables where nothing is refused
abbrev pub ReadOf : Bytes → List (List Word) → Buffers → Outcome → Type 0
ReadOf text ss before outcome =
    let check = checked_of text ss before in
    Yields (or_refused check (accepted (sizes_for ss))) (holding check (tables ss) before) outcome

-- the promise: 11 with "the first byte after which no well-formed text is possible, or the length at the end"; else what reading comes to, whatever
-- sound lines make the text
pub record Promised (text : Bytes) (before : Buffers) (outcome : Outcome) : Type 0 where
  pub malformed : (place : ℕ) → PlaceOf text place → Yields (refused (numbered 11 place)) before outcome
  pub whole : (ls : List Line) → SoundText ls → text_of ls ≡ text → ReadOf text (sequences ls) before outcome

-- no two different outcomes satisfy one promise, and some outcome does; proved in proofs/Unique
abbrev pub OnlyOne : Type 0
OnlyOne = (text : Bytes) (before : Buffers) (a b : Outcome) → Promised text before a → Promised text before b → a ≡ b

abbrev pub SomeOutcome : Type 0
SomeOutcome = (text : Bytes) (before : Buffers) → (outcome : Outcome) × Promised text before outcome
