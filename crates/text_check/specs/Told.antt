-- What a survey with room for 33 labels and 65,536 attribute names tells of a text's sequences, and the rows in its terms. Assumes nothing.
use Rattle.std.specs.Prelude.{◌≡◌, ◌↔◌, ℕ, ◌+◌, ◌≤◌, ◌<◌, length, take, Ok, Some, None, Option}
use mathlib.Core.List.{List, [], ◌∷◌, flatten}
use Rattle.refusals.specs.Refusals.{Checked, refused_at}
use Rattle.refusals.specs.Meaning.{FirstBad}
use Rattle.refusal_rows.specs.Limits.{Limit, room}
use Rattle.layout.specs.Layout.{Bytes, Word, NoneEmpty}
use Rattle.text_tables.specs.Distinct.{distinct}
use Rattle.text_tables.specs.Tables.{all_words, all_attributes, labels_of, names_of, scales_of}
use Rattle.text_tables.specs.Tally.{AboveAt}
use Rattle.survey.specs.declared.NameSums.{NameSums}
use Rattle.survey.specs.declared.Survey.{Survey}
use Rattle.text_check.specs.declared.Lengths.{Lengths}
use Rattle.text_check.specs.Rows.{text_limits}

-- of these names the first so many are counted
pub record CountsFront (most : ℕ) (names : List Bytes) (known : NameSums) : Type 0 where
  pub count : known.count ≡ length (take most names)
  pub bytes : known.bytes ≡ length (flatten (take most names))

pub record TellsSequences (ss : List (List Word)) (s : Survey) : Type 0 where
  pub none_empty : NoneEmpty ss
  pub sequences : s.figures.sequences ≡ length ss
  pub words : s.figures.words ≡ length (all_words ss)
  pub attributes : s.figures.attributes ≡ length (all_attributes (all_words ss))
  pub scales : s.figures.scales ≡ length (flatten (scales_of (all_attributes (all_words ss))))
  pub labels : CountsFront 33 (distinct (labels_of (all_words ss))) s.labels
  pub names : CountsFront 65536 (distinct (names_of (all_attributes (all_words ss)))) s.names
  pub none_long : s.figures.long ≡ None ↔ ((i : ℕ) → i < length ss → AboveAt ss i → ⊥)
  pub first_long : (i : ℕ) → s.figures.long ≡ Some i ↔ FirstBad (AboveAt ss) (length ss) i

-- ---- the rows, in its terms

abbrev pub survey_counts : Survey → List Limit
survey_counts s = text_limits s.labels.count s.names.count s.figures.sequences s.figures.words s.figures.attributes

abbrev pub survey_rooms : Survey → Lengths → List Limit
survey_rooms s have =
    room have.lines (s.figures.sequences + 1)
    ∷ room have.begins (s.figures.words + 1)
    ∷ room have.ids s.figures.attributes
    ∷ room have.values s.figures.attributes
    ∷ room have.references s.figures.words
    ∷ room have.weights s.figures.sequences
    ∷ room have.label_starts (s.labels.count + 1)
    ∷ room have.label_bytes s.labels.bytes
    ∷ room have.name_starts (s.names.count + 1)
    ∷ room have.name_bytes s.names.bytes
    ∷ room have.scale_starts (s.figures.attributes + 1)
    ∷ room have.scale_bytes s.figures.scales
    ∷ []

-- 4, at the first long sequence
abbrev pub long_refused : Option ℕ → Checked
long_refused None = Ok tt
long_refused (Some i) = refused_at 4 i

-- nothing is so large that one more does not fit
pub record FewSurvey (s : Survey) : Type 0 where
  pub sequences : s.figures.sequences ≤ 4294967295
  pub words : s.figures.words ≤ 4294967295
  pub attributes : s.figures.attributes ≤ 4294967295
  pub labels : s.labels.count ≤ 4294967295
  pub names : s.names.count ≤ 4294967295

-- what a survey of a well-formed text is promised to be
pub record TextSurveyed (ss : List (List Word)) (s : Survey) : Type 0 where
  pub tells : TellsSequences ss s
  pub few : FewSurvey s
