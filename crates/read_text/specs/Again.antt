-- The round trip, of the reader's promise and the writer's definition: what was written of what was read reads back. The proof is in proofs/Again.
use Rattle.std.specs.Prelude.{◌≡◌, ◌≤◌, length, Ok}
use Rattle.layout.specs.Layout.{Bytes}
use Rattle.text_tables.specs.Tables.{Tables}
use Rattle.text_tables.specs.Written.{Unwritten, written_text}
use Rattle.read_text.specs.declared.TextSizes.{TextSizes}
use Rattle.read_text.specs.Promise.{Buffers, Outcome, lengths_of, laid_over, Promised}

-- the lent tables as the writer is lent them, with whatever lies behind their fronts
abbrev pub lent_back : TextSizes → Buffers → Unwritten
lent_back sizes b = record {
  instances = sizes.instances;
  line_starts = b.line_starts;
  word_starts_of = b.word_starts_of;
  ids = b.ids;
  references = b.references;
  labels = record { starts = b.label_starts_of; bytes = b.label_bytes_of };
  names = record { starts = b.name_starts_of; bytes = b.name_bytes_of };
  scales = record { starts = b.scale_starts_of; bytes = b.scale_bytes_of };
}

-- the same tables stand in both, with the same sizes
pub record SameRead (sizes : TextSizes) (before other : Buffers) (outcome again : Outcome) : Type 0 where
  pub held : Tables
  pub first : outcome.after ≡ laid_over held before
  pub second : again.after ≡ laid_over held other
  pub answer : again.answer ≡ Ok sizes

-- "for every text that the reader accepts, .. the reader, given what was written, fills the same tables, to the bit, with the same sizes": given tables of the
-- same lengths, and where what was written, which can have two bytes more than the text, is not too long itself
abbrev pub ReadsAgain : Type 0
ReadsAgain = (text : Bytes) (before : Buffers) (outcome : Outcome) (sizes : TextSizes) → Promised text before outcome → outcome.answer ≡ Ok sizes →
    let written = written_text (lent_back sizes outcome.after) in
    length written ≤ 4294967295 → (other : Buffers) → lengths_of other ≡ lengths_of before → (again : Outcome) → Promised written other again →
    SameRead sizes before other outcome again

-- so into tables that held the same before it is the same outcome
abbrev pub ReadsTheSame : Type 0
ReadsTheSame = (text : Bytes) (before : Buffers) (outcome : Outcome) (sizes : TextSizes) → Promised text before outcome → outcome.answer ≡ Ok sizes →
    let written = written_text (lent_back sizes outcome.after) in
    length written ≤ 4294967295 → (again : Outcome) → Promised written before again → again ≡ outcome
