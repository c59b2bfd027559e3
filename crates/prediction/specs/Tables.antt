-- The tables that a trainer reads, as the model and the data of the definitions, and what a prediction relies on in one instance. Assumes nothing.
use Rattle.std.specs.Prelude.{◌≡◌, List, ℕ, ◌+◌, ◌<◌, get_or, length, Float}
use denote.Triple.Both.{Both}
use Rattle.lines.specs.Tables.{Model, Words}
use Rattle.lines.specs.Sound.{SoundWords}
use Rattle.score_tables.specs.Sound.{WordsIn}
use Rattle.lines.specs.Data.{Data}
use Rattle.lines.specs.Entry.{Numbers, Floats}
use Rattle.lines.specs.Entry as entry
use Rattle.lines.specs.declared.Totals.{Totals}
use Rattle.feature_gen.specs.declared.Counts.{Counts}
use Rattle.feature_gen.specs.Lent as lent
use Rattle.prediction.specs.declared.Sizes.{Sizes}

-- the counts of the call that the sizes come from
abbrev pub counts_in : Sizes → Counts
counts_in sizes = record {
  features = sizes.features;
  attribute_lists = sizes.attribute_lists;
  label_lists = sizes.label_lists;
  attribute_entries = sizes.attribute_entries;
  label_entries = sizes.label_entries;
}

abbrev pub totals_in : Sizes → Totals
totals_in sizes = record { instances = sizes.instances; words = sizes.words; attributes = sizes.attributes }

abbrev pub training_model_of : (sizes : Sizes) (kinds destinations sources starts entries label_starts_of label_entries_of : List ℕ) → Model
training_model_of sizes = lent.model_of sizes.labels (counts_in sizes)

abbrev pub words_from : (sizes : Sizes) (begins ids : List ℕ) (values : List Float) → Words
words_from sizes = entry.line_of sizes.attributes

abbrev pub training_data_of : (sizes : Sizes) (lines begins ids : List ℕ) (values : List Float) (references : List ℕ) (shares : List Float) → Data
training_data_of sizes = entry.data_of (totals_in sizes)

-- the same at a call's entry: in a `requires`, where the name of a table is the table
abbrev pub training_model_at : Sizes → Numbers → Numbers → Numbers → Numbers → Numbers → Numbers → Numbers → Model
training_model_at sizes = lent.model_at sizes.labels (counts_in sizes)

abbrev pub words_at : Sizes → Numbers → Numbers → Floats → Words
words_at sizes = entry.line_at sizes.attributes

abbrev pub training_data_at : Sizes → Numbers → Numbers → Numbers → Floats → Numbers → Floats → Data
training_data_at sizes = entry.data_at (totals_in sizes)

-- and in an `ensures`, where it is the pair of entry and exit
module _ {A B C D E F G : Type 0} where
  abbrev pub training_model_was : Sizes → Both Numbers A → Both Numbers B → Both Numbers C → Both Numbers D → Both Numbers E → Both Numbers F → Both Numbers G → Model
  training_model_was sizes = lent.model_was sizes.labels (counts_in sizes)

module _ {A B C : Type 0} where
  abbrev pub words_was : Sizes → Both Numbers A → Both Numbers B → Both Floats C → Words
  words_was sizes = entry.line_was sizes.attributes

module _ {A B C D E F : Type 0} where
  abbrev pub training_data_was : Sizes → Both Numbers A → Both Numbers B → Both Numbers C → Both Floats D → Both Numbers E → Both Floats F → Data
  training_data_was sizes = entry.data_was (totals_in sizes)

-- one instance: its words, from the word `first` on, and its reference labels
pub record SoundInstance (labels : ℕ) (words : Words) (first count : ℕ) (references : List ℕ) : Type 0 where
  pub sized : WordsIn count
  pub worded : SoundWords (first + count) words.starts words.ids words.values
  pub referenced : length references ≡ count
  pub below : (w : ℕ) → w < count → get_or references w 0 < labels
