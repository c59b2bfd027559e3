-- What a pass over the pieces of a text counts and learns before anything is written. What it comes to is proved in proofs/Tallied. Assumes nothing.
use Rattle.std.specs.Prelude.{◌≡◌, cond, ◌&&◌, ◌↔◌, ℕ, ◌+◌, ◌<◌, eqb, ltb, length, get_or}
use mathlib.Core.List.{List, [], flatten}
use Rattle.refusals.specs.Meaning.{FirstBad}
use Rattle.layout.specs.Layout.{Bytes, Word, Line, sequences}
use Rattle.text_tables.specs.Distinct.{learnt, distinct}
use Rattle.text_tables.specs.Tables.{all_words, all_attributes, labels_of, names_of, scales_of}
use Rattle.text_tables.specs.Pieces.{Piece, blank, label, attribute, pieces_of, after_each}

-- "counts, distinct names, bytes"
pub record Tally : Type 0 where
  -- sequences begun, words and attributes so far, and the words of the present sequence
  pub sequences : ℕ
  pub words : ℕ
  pub attributes : ℕ
  pub present : ℕ
  -- the bytes of the kept texts
  pub scale_bytes_of : ℕ
  -- the names known so far
  pub labels : List Bytes
  pub names : List Bytes
  -- "the first sequence above 128 words", counted from 1; 0 while there is none
  pub long : ℕ

abbrev pub nothing_yet : Tally
nothing_yet = record { sequences = 0; words = 0; attributes = 0; present = 0; scale_bytes_of = 0; labels = []; names = []; long = 0 }

-- one piece more: an empty line ends the sequence, a label begins a word, and a sequence where none is open
abbrev pub tallied : Tally → Piece → Tally
tallied t blank = record {
  sequences = t.sequences;
  words = t.words;
  attributes = t.attributes;
  present = 0;
  scale_bytes_of = t.scale_bytes_of;
  labels = t.labels;
  names = t.names;
  long = t.long;
}
tallied t (label n) =
    let begun = cond (eqb t.present 0) (t.sequences + 1) t.sequences in
    record {
      sequences = begun;
      words = t.words + 1;
      attributes = t.attributes;
      present = t.present + 1;
      scale_bytes_of = t.scale_bytes_of;
      labels = learnt t.labels n;
      names = t.names;
      long = cond (eqb t.long 0 && ltb 128 (t.present + 1)) begun t.long;
    }
tallied t (attribute a) = record {
  sequences = t.sequences;
  words = t.words;
  attributes = t.attributes + 1;
  present = t.present;
  scale_bytes_of = t.scale_bytes_of + length a.scale;
  labels = t.labels;
  names = learnt t.names a.name;
  long = t.long;
}

abbrev pub tally_of : List Piece → Tally
tally_of pieces = after_each tallied nothing_yet pieces

-- ---- what it comes to, in plain terms

-- "the index of the first sequence above 128 words"
abbrev pub AboveAt : List (List Word) → ℕ → Type 0
AboveAt ss i = 128 < length (get_or ss i [])

pub record Tallies (ss : List (List Word)) (t : Tally) : Type 0 where
  pub sequences : t.sequences ≡ length ss
  pub words : t.words ≡ length (all_words ss)
  pub attributes : t.attributes ≡ length (all_attributes (all_words ss))
  pub scale_bytes_of : t.scale_bytes_of ≡ length (flatten (scales_of (all_attributes (all_words ss))))
  pub labels : t.labels ≡ distinct (labels_of (all_words ss))
  pub names : t.names ≡ distinct (names_of (all_attributes (all_words ss)))
  pub none_long : t.long ≡ 0 ↔ ((i : ℕ) → i < length ss → AboveAt ss i → ⊥)
  pub first_long : (i : ℕ) → t.long ≡ i + 1 ↔ FirstBad (AboveAt ss) (length ss) i

-- the tally of the pieces of lines tells of their sequences
abbrev pub TallyMeans : Type 0
TallyMeans = (ls : List Line) → Tallies (sequences ls) (tally_of (pieces_of ls))
