-- Decided points of a call on a single line, computed over a small model: what is accepted, and which number comes first. Assumes nothing.
use Rattle.std.specs.Prelude.{◌≡◌, refl, true, List, [], ◌∷◌, ◌++◌, ℕ, Float, Ok}
use Rattle.std.specs.Float.{nan}
use Rattle.refusals.specs.Refusals.{refused_at, refuse, or_next_of, lowest}
use Rattle.refusal_rows.specs.Limits.{in_order_of}
use Rattle.refusal_rows.specs.Tests.{in_table_order}
use Rattle.binary64.specs.Numbers.{nought}
use Rattle.lines.specs.Tables.{Model}
use Rattle.feature_gen.specs.Rows.{id_tests, weight_tests}
use Rattle.line_check.specs.Rows.{Scoring, Counting, line_starts, label_tests, value_tests, scoring_counts, counting_counts, scoring_checked, counting_checked}

-- two labels, "attribute 0 .. listing State features to labels 0 and 1", whose sources may be anything, and three label lists with these entries
abbrev small : List ℕ → Model
small entries = record {
  labels = 2;
  features = record { count = 2; kinds = 0 ∷ 0 ∷ []; destinations = 0 ∷ 1 ∷ []; sources = 77 ∷ 77 ∷ [] };
  attribute_lists_of = record { count = 1; starts = 0 ∷ 2 ∷ []; size = 2; entries = 0 ∷ 1 ∷ [] };
  label_lists_of = record { count = 3; starts = 0 ∷ 0 ∷ 0 ∷ 1 ∷ []; size = 1; entries = entries };
}

-- a line of so many words, which has one word with one attribute
abbrev scored : List ℕ → ℕ → ℕ → Float → ℕ → Scoring
scored entries words id value states = record {
  model = small entries;
  weights = nought ∷ nought ∷ [];
  words = words;
  line = record { starts = 0 ∷ 1 ∷ []; size = 1; ids = id ∷ []; values = value ∷ [] };
  transitions = 4;
  states = states;
}

accepted : scoring_checked (scored (0 ∷ []) 1 0 nought 2) ≡ Ok tt
unfolding scoring_checked lowest or_next_of refuse
accepted = refl

-- "An attribute id without a list is ignored, not refused"
no_list : scoring_checked (scored (0 ∷ []) 1 9 nought 2) ≡ Ok tt
unfolding scoring_checked lowest or_next_of refuse
no_list = refl

-- "Everything within the counts is tested, used or not": the value of an id without a list, and the list of a label that is not one
no_list_value : scoring_checked (scored (0 ∷ []) 1 9 nan 2) ≡ refused_at 6 0
unfolding scoring_checked lowest or_next_of refuse
no_list_value = refl

no_label : scoring_checked (scored (2 ∷ []) 1 0 nought 2) ≡ refused_at 5 0
unfolding scoring_checked lowest or_next_of refuse
no_label = refl

-- "4 right after 1": a T of 129, though the line's starts and the buffer are too short
four_first : scoring_checked (scored (0 ∷ []) 129 0 nought 0) ≡ refused_at 4 0
unfolding scoring_checked lowest or_next_of refuse
four_first = refl

-- a buffer too short comes before a bad id and a bad value
two_next : scoring_checked (scored (2 ∷ []) 1 0 nan 1) ≡ refused_at 2 0
unfolding scoring_checked lowest or_next_of refuse
two_next = refl

-- a line of one word under a label
abbrev counted : ℕ → Float → Counting
counted label value = record {
  model = small (0 ∷ []);
  words = 1;
  line = record { starts = 0 ∷ 1 ∷ []; size = 1; ids = 0 ∷ []; values = value ∷ [] };
  path = label ∷ [];
  features = 2;
}

labelled : counting_checked (counted 1 nought) ≡ Ok tt
unfolding counting_checked lowest or_next_of refuse
labelled = refl

-- "label at or above L" comes before a value that is not finite
bad_label : counting_checked (counted 2 nan) ≡ refused_at 5 0
unfolding counting_checked lowest or_next_of refuse
bad_label = refl

-- the counts are tested in the order of "Tables and bounds"
scoring_in_order : (s : Scoring) → in_order_of (scoring_counts s) ≡ true
scoring_in_order s = refl

counting_in_order : (c : Counting) → in_order_of (counting_counts c) ≡ true
counting_in_order c = refl

-- and 3, 5 and 6 in the order of the tables
scoring_tables : (s : Scoring) →
    (in_table_order (line_starts s.model s.words s.line.starts s.line.size) ≡ true)
    × (in_table_order (id_tests s.model) ≡ true)
    × (in_table_order (weight_tests s.model s.weights ++ value_tests s.line) ≡ true)
scoring_tables s = (refl, refl, refl)

counting_tables : (c : Counting) → in_table_order (id_tests c.model ++ label_tests c) ≡ true
counting_tables c = refl
