-- What the counting pass holds beside the tally of text_tables: the same counts, and of the names as many as there is room for. Assumes nothing.
use Rattle.std.specs.Prelude.{◌≡◌, Bool, cond, ℕ, zero, suc, ◌+◌, ◌≤◌, ◌<◌, eqb, ltb, length, take, Some, None, Option}
use mathlib.Core.List.{List, [], map, flatten}
use Rattle.layout.specs.Layout.{Bytes, escaped}
use Rattle.text_tables.specs.Pieces.{Piece}
use Rattle.text_tables.specs.Tally.{Tally}
use Rattle.pieces.specs.declared.Span.{Span}
use Rattle.pieces.specs.Standing.{Named, Stands}
use Rattle.distinct.specs.Names.{Known}
use Rattle.distinct.specs.Slots.{Filed}
use Rattle.survey.specs.declared.Figures.{Figures}
use Rattle.survey.specs.declared.NameSums.{NameSums}
use Rattle.survey.specs.declared.Survey.{Survey}

abbrev pub untouched : Survey
untouched = record {
  figures = record { sequences = 0; words = 0; attributes = 0; present = 0; scales = 0; long = None };
  labels = record { count = 0; bytes = 0 };
  names = record { count = 0; bytes = 0 };
}

-- ---- the counts of a tally, and each kind of piece more

-- the number of what a tally counts from 1, with 0 for none
abbrev pub number_before : ℕ → Option ℕ
number_before zero = None
number_before (suc i) = Some i

-- the first long sequence stays; where there was none, and the last of so many begun is long now, it is that one
abbrev pub first_above : Option ℕ → Bool → ℕ → Option ℕ
first_above None above begun = cond above (number_before begun) None
first_above (Some i) above begun = Some i

abbrev pub figures_of : Tally → Figures
figures_of t = record {
  sequences = t.sequences;
  words = t.words;
  attributes = t.attributes;
  present = t.present;
  scales = t.scale_bytes_of;
  long = number_before t.long;
}

-- "an empty line .. ends a sequence, and a further empty line changes nothing"
abbrev pub blanked : Figures → Figures
blanked f = record { sequences = f.sequences; words = f.words; attributes = f.attributes; present = 0; scales = f.scales; long = f.long }

abbrev pub worded : Figures → Figures
worded f =
    let begun = cond (eqb f.present 0) (f.sequences + 1) f.sequences in
    record {
      sequences = begun;
      words = f.words + 1;
      attributes = f.attributes;
      present = f.present + 1;
      scales = f.scales;
      long = first_above f.long (ltb 128 (f.present + 1)) begun;
    }

abbrev pub attributed : Figures → ℕ → Figures
attributed f scale = record {
  sequences = f.sequences;
  words = f.words;
  attributes = f.attributes + 1;
  present = f.present;
  scales = f.scales + scale;
  long = f.long;
}

-- ---- names

-- a name of so many bytes more: new where its id is the count
abbrev pub grown : NameSums → ℕ → ℕ → NameSums
grown known id bytes = cond (eqb id known.count) (record { count = known.count + 1; bytes = known.bytes + bytes }) known

-- of these names the first are known, as many as there is room for
pub record KnowsFront (text : Bytes) (positions : List ℕ) (names : List Bytes) (known : NameSums) : Type 0 where
  pub knows : Known text positions known.count (map escaped (take (length positions) names))
  pub bytes : known.bytes ≡ length (flatten (take (length positions) names))

-- and filed
pub record KnowsNames (text : Bytes) (slots positions : List ℕ) (names : List Bytes) (known : NameSums) : Type 0 where
  pub listed : KnowsFront text positions names known
  pub filed : Filed (length slots) (map escaped (take (length positions) names)) slots

-- ---- all of it

pub record Surveys (text : Bytes) (labels slots positions : List ℕ) (s : Survey) (t : Tally) : Type 0 where
  pub counted : s.figures ≡ figures_of t
  pub labelled : KnowsFront text labels t.labels s.labels
  pub named : KnowsNames text slots positions t.names s.names

-- ---- what is asked: nothing that is counted is above the text's bytes, and of slots there are more than names can be known

pub record FewFigures (f : Figures) : Type 0 where
  pub sequences : f.sequences ≤ 4294967295
  pub words : f.words ≤ 4294967295
  pub attributes : f.attributes ≤ 4294967295
  pub present : f.present ≤ 4294967295
  pub scales : f.scales ≤ 4294967295

pub record LabelAsked (text : Bytes) (labels : List ℕ) (known : NameSums) (from to : ℕ) : Type 0 where
  pub name : Bytes
  pub stands : Named text from to name
  pub before : List Bytes
  pub knows : KnowsFront text labels before known
  pub few : known.bytes ≤ 4294967295
  pub room : length labels ≤ 4294967295
  pub small : length text ≤ 4294967295

pub record NameAsked (text : Bytes) (slots positions : List ℕ) (known : NameSums) (from to : ℕ) : Type 0 where
  pub name : Bytes
  pub stands : Named text from to name
  pub before : List Bytes
  pub knows : KnowsNames text slots positions before known
  pub few : known.bytes ≤ 4294967295
  pub room : length positions < length slots
  pub slots_few : length slots ≤ 4294967295
  pub small : length text ≤ 4294967295

pub record Rooms (text : Bytes) (labels slots positions : List ℕ) : Type 0 where
  pub small : length text ≤ 4294967295
  pub labels_few : length labels ≤ 4294967295
  pub room : length positions < length slots
  pub slots_few : length slots ≤ 4294967295

pub record StepAsked (text : Bytes) (labels slots positions : List ℕ) (s : Survey) (span : Span) : Type 0 where
  pub before : Tally
  pub piece : Piece
  pub surveys : Surveys text labels slots positions s before
  pub stands : Stands text span piece
  pub figures : FewFigures s.figures
  pub label_bytes_lem : s.labels.bytes ≤ 4294967295
  pub name_bytes_lem : s.names.bytes ≤ 4294967295
  pub rooms : Rooms text labels slots positions

-- slots that are free
pub record SurveyAsked (text : Bytes) (labels slots positions : List ℕ) : Type 0 where
  pub rooms : Rooms text labels slots positions
  pub free : Filed (length slots) [] slots
