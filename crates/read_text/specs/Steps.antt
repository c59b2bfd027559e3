-- What the parts of the two calls answer and rely on. Assumes nothing.
use Rattle.std.specs.Prelude.{◌≡◌, List, [], ℕ, ◌≤◌, length}
use Rattle.layout.specs.Layout.{Bytes, WellFormed}
use Rattle.text_tables.specs.Pieces.{pieces_of}
use Rattle.text_tables.specs.Tally.{tally_of}
use Rattle.distinct.specs.Slots.{Filed}
use Rattle.survey.specs.declared.Survey.{Survey}
use Rattle.survey.specs.Surveyed.{Surveys}
use Rattle.text_bytes.specs.Bytes.{Readable}
use Rattle.text_check.specs.Told.{FewSurvey}
use Rattle.read_text.specs.declared.TextSizes.{TextSizes}

-- the sizes that a survey's figures are, where all names are counted
abbrev pub sizes_in_of : Survey → TextSizes
sizes_in_of s = record {
  labels = s.labels.count;
  names = s.names.count;
  instances = s.figures.sequences;
  words = s.figures.words;
  attributes = s.figures.attributes;
  label_bytes = s.labels.bytes;
  name_bytes = s.names.bytes;
  scale_bytes = s.figures.scales;
}

-- each is a number of 32 bits
pub record SmallSurvey (s : Survey) : Type 0 where
  pub few : FewSurvey s
  pub label_bytes_of : s.labels.bytes ≤ 4294967295
  pub name_bytes_of : s.names.bytes ≤ 4294967295
  pub scale_bytes_of : s.figures.scales ≤ 4294967295

-- so many slots, all of them free
pub record FreeSlots (slots : List ℕ) : Type 0 where
  pub long : length slots ≡ 131072
  pub free : Filed (length slots) [] slots

-- what was learnt of one: its figures, and of the names one more than may be
pub record SurveyMade (text : Bytes) (labels slots positions : List ℕ) (s : Survey) : Type 0 where
  pub readable : Readable text
  pub labels_long : length labels ≡ 33
  pub slots_long : length slots ≡ 131072
  pub positions_long : length positions ≡ 65536
  pub surveys : (h : WellFormed text) → Surveys text labels slots positions s (tally_of (pieces_of h.lines))
