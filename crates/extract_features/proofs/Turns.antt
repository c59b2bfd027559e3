-- The end of both loops is the end of counting. Assumes nothing.
use mathlib.Core.Path.{◌≡◌, ap, ◌∙◌}
use mathlib.Core.List.{List, [], ◌++◌}
use Prim.Native.Nat.{ℕ, ◌-◌}
use lib.ListN.{drop, replicate}
use lib.Ieee.{Float}
use Rattle.lines.specs.Passes.{through}
use Rattle.binary64.specs.Numbers.{nought}
use Rattle.lines.specs.Tables.{Model, Words}
use Rattle.lines.specs.Sound.{SoundLists}
use Rattle.lines.specs.Counted.{state_count, counted_attribute, counted_at, counted_word, transition_count_of, counted_transition, counts_of}
use Rattle.lines.specs.Lent.{bare, with_counts}
use Rattle.lines.proofs.Fronts.{counts_front}

-- both loops have ended: they saw of the model and of the line what they were lent, and that is all that counts look at
pub line_end : (m : Model) (d : Words) (first words : ℕ) (labels : List ℕ) (before : List Float) {cleared states u : List Float} →
    SoundLists m.attribute_lists_of.count m.attribute_lists_of.starts m.attribute_lists_of.entries m.features.count → SoundLists m.label_lists_of.count m.label_lists_of.starts m.label_lists_of.entries m.features.count →
    cleared ≡ replicate m.features.count nought ++ drop m.features.count before →
    states ≡ through (counted_word (with_counts bare m.features.count m.features.kinds m.features.destinations [] m.attribute_lists_of.count m.attribute_lists_of.starts m.attribute_lists_of.entries 0 [] []) (record { starts = d.starts; size = 0; ids = d.ids; values = d.values }) first labels) 0 words cleared →
    u ≡ through (counted_transition (with_counts bare m.features.count m.features.kinds m.features.destinations m.features.sources 0 [] [] m.label_lists_of.count m.label_lists_of.starts m.label_lists_of.entries) labels) 1 (words - 1) states →
    u ≡ counts_of m d first words labels ++ drop m.features.count before
unfolding counted_word counted_at counted_attribute state_count counted_transition transition_count_of
line_end m d first words labels before l k e p q =
    q
    ∙ ap (through (counted_transition m labels) 1 (words - 1)) (p ∙ ap (through (counted_word m d first labels) 0 words) e)
    ∙ counts_front m l k d first words labels (drop m.features.count before)
