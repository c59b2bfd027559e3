-- The tables of the sequences of a text: "The tables are the trainers' own, and three lists of bytes beside them". Assumes nothing.
use mathlib.Core.List.{List, [], ◌∷◌, map, flatten}
use Rattle.std.specs.Prelude.{ℕ, ◌+◌, length, replicate}
use Rattle.binary64.specs.Numbers.{whole}
use Rattle.lines.specs.Data.{Data}
use Rattle.layout.specs.Layout.{Bytes, TextAttribute, Word}
use Rattle.scales.specs.Value.{value_of}
use Rattle.text_tables.specs.Distinct.{id_in, distinct}

-- "Each list of byte strings lies flat as every list: starts and entries, first start 0, last the byte count"
pub record Strings : Type 0 where
  pub starts : List ℕ
  pub bytes : Bytes

-- where lists of these lengths begin, the first at a place, and where the last ends
unfoldable pub starts_from : ℕ → List ℕ → List ℕ
starts_from at [] = at ∷ []
starts_from at (n ∷ ns) = at ∷ starts_from (at + n) ns

abbrev pub flat : List Bytes → Strings
flat strings = record { starts = starts_from 0 (map length strings); bytes = flatten strings }

-- all words of a text, and all their attributes
abbrev pub all_words : List (List Word) → List Word
all_words sequences = flatten sequences

abbrev pub all_attributes : List Word → List TextAttribute
all_attributes words = flatten (map (λ (w : Word). w.attributes) words)

abbrev pub labels_of : List Word → List Bytes
labels_of words = map (λ (w : Word). w.label) words

abbrev pub names_of : List TextAttribute → List Bytes
names_of attributes = map (λ (a : TextAttribute). a.name) attributes

abbrev pub scales_of : List TextAttribute → List Bytes
scales_of attributes = map (λ (a : TextAttribute). a.scale) attributes

pub record Tables : Type 0 where
  pub corpus : Data
  pub labels : Strings
  pub names : Strings
  pub scales : Strings

-- "Without a scale the value is 1; instance weights are 1", and "its text is kept beside its value"
abbrev pub corpus_of : List (List Word) → Data
corpus_of sequences =
    let words = all_words sequences in
    let attributes = all_attributes words in
    record {
      instances = length sequences;
      starts = starts_from 0 (map (λ (s : List Word). length s) sequences);
      count = length words;
      words = record {
        starts = starts_from 0 (map (λ (w : Word). length w.attributes) words);
        size = length attributes;
        ids = map (id_in (distinct (names_of attributes))) (names_of attributes);
        values = map value_of (scales_of attributes);
      };
      references = map (id_in (distinct (labels_of words))) (labels_of words);
      weights = replicate (length sequences) (whole 1);
    }

unfoldable pub tables : List (List Word) → Tables
tables sequences =
    let words = all_words sequences in
    let attributes = all_attributes words in
    record {
      corpus = corpus_of sequences;
      labels = flat (distinct (labels_of words));
      names = flat (distinct (names_of attributes));
      scales = flat (scales_of attributes);
    }
