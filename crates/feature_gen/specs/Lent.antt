-- A model as a call is lent it: counts, and tables beside them. Assumes nothing.
use Rattle.std.specs.Prelude.{List, ℕ}
use denote.Triple.Both.{Both}
use Rattle.lines.specs.Tables.{Features, Lists, Model}
use Rattle.lines.specs.Entry.{Numbers}
use Rattle.feature_gen.specs.declared.Counts.{Counts}

abbrev pub features_of : Counts → List ℕ → List ℕ → List ℕ → Features
features_of counts kinds destinations sources = record {
  count = counts.features;
  kinds = kinds;
  destinations = destinations;
  sources = sources;
}

abbrev pub attribute_lists_for : Counts → List ℕ → List ℕ → Lists
attribute_lists_for counts starts entries = record {
  count = counts.attribute_lists;
  starts = starts;
  size = counts.attribute_entries;
  entries = entries;
}

abbrev pub label_lists_for : Counts → List ℕ → List ℕ → Lists
label_lists_for counts starts entries = record {
  count = counts.label_lists;
  starts = starts;
  size = counts.label_entries;
  entries = entries;
}

-- L, the counts, kinds, destinations and sources; starts and entries of the attribute lists, then of the label lists
abbrev pub model_of : ℕ → Counts → List ℕ → List ℕ → List ℕ → List ℕ → List ℕ → List ℕ → List ℕ → Model
model_of labels counts kinds destinations sources attribute_starts attribute_entries_of label_starts_of label_entries_of = record {
  labels = labels;
  features = features_of counts kinds destinations sources;
  attribute_lists_of = attribute_lists_for counts attribute_starts attribute_entries_of;
  label_lists_of = label_lists_for counts label_starts_of label_entries_of;
}

-- the model at a call's entry: in a `requires`, where the name of a table is the table
abbrev pub model_at : ℕ → Counts → Numbers → Numbers → Numbers → Numbers → Numbers → Numbers → Numbers → Model
model_at labels counts k d s a e b f = model_of labels counts k.now d.now s.now a.now e.now b.now f.now

-- and in an `ensures`, where it is the pair of entry and exit
module _ {A B C D E F G : Type 0} where
  abbrev pub model_was : ℕ → Counts → Both Numbers A → Both Numbers B → Both Numbers C → Both Numbers D → Both Numbers E → Both Numbers F → Both Numbers G → Model
  model_was labels counts k d s a e b f = model_at labels counts k.entry d.entry s.entry a.entry e.entry b.entry f.entry
