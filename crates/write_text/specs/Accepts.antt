-- "for every text that the reader accepts, the writer accepts its tables given room", lent longer or not. The proof is in proofs/Accepts.
use Rattle.std.specs.Prelude.{◌≡◌, List, ℕ, ◌≤◌, ◌<◌, length, Ok}
use Rattle.refusals.specs.Bounds.{the_attribute_lists, the_instances, the_words, the_attributes, most}
use Rattle.score_tables.specs.Sound.{LabelsIn, WordsIn}
use Rattle.refusal_rows.specs.Tests.{line_length}
use Rattle.layout.specs.Layout.{Bytes, Word, Line, SoundText, sequences}
use Rattle.text_tables.specs.Tables.{tables}
use Rattle.text_tables.specs.Written.{unwritten, written_text}
use Rattle.text_tables.specs.RoundTrip.{amounts_of}
use Rattle.text_tables.specs.Tails.{Tails, lent_with}
use Rattle.write_check.specs.Rows.{Unchecked}
use Rattle.write_text.specs.Promise.{checked_of}

-- the tables of sequences as the reader fills them, with what lies behind their fronts
abbrev pub read_given : List (List Word) → Tails → Unchecked
read_given ss tails =
    let n = amounts_of ss in
    let t = unwritten (tables ss) in
    record {
      labels = n.labels;
      words = n.words;
      attributes = n.attributes;
      names = n.names;
      label_bytes_of = length t.labels.bytes;
      name_bytes_of = length t.names.bytes;
      scale_bytes_of = length t.scales.bytes;
      tables = lent_with t tails;
    }

-- what the reader refuses under 2 and 4 is not there
pub record ReadWithin (ss : List (List Word)) : Type 0 where
  pub labels : LabelsIn (amounts_of ss).labels
  pub names : (amounts_of ss).names ≤ most the_attribute_lists
  pub some : 1 ≤ (unwritten (tables ss)).instances
  pub instances : (unwritten (tables ss)).instances ≤ most the_instances
  pub words : (amounts_of ss).words ≤ most the_words
  pub attributes : (amounts_of ss).attributes ≤ most the_attributes
  pub lengths : (i : ℕ) → i < (unwritten (tables ss)).instances → WordsIn (line_length (unwritten (tables ss)).line_starts i)

abbrev pub AcceptsTheRead : Type 0
AcceptsTheRead =
    (ls : List Line) → SoundText ls → ReadWithin (sequences ls) → (tails : Tails) (before : Bytes) →
    length (written_text (unwritten (tables (sequences ls)))) ≤ length before → checked_of (read_given (sequences ls) tails) before ≡ Ok tt
