-- What a trainer is lent, as its contract names it, and the counts of the call as they are used inside. Assumes nothing.
use Rattle.std.specs.Prelude.{List, ℕ, Float}
use Rattle.lines.specs.declared.Totals.{Totals}
use Rattle.feature_gen.specs.declared.Counts.{Counts}
use Rattle.prediction.specs.declared.Sizes.{Sizes}
use Rattle.trainers.specs.Promise.{Buffers}

-- the buffers, at a call's entry or at its end
abbrev pub buffers_of : (weights beside truly predicted : List Float) (order : List ℕ) → Buffers
buffers_of weights beside truly predicted order = record { weights = weights; beside = beside; truly = truly; predicted = predicted; order = order }

abbrev pub sizes_for : ℕ → Counts → Totals → Sizes
sizes_for labels counts totals = record {
  labels = labels;
  features = counts.features;
  attribute_lists = counts.attribute_lists;
  label_lists = counts.label_lists;
  attribute_entries = counts.attribute_entries;
  label_entries = counts.label_entries;
  instances = totals.instances;
  words = totals.words;
  attributes = totals.attributes;
}
