-- A turn of a loop over attributes or words is a step of scoring. Assumes nothing.
use mathlib.Core.Path.{◌≡◌, ap, ◌∙◌}
use mathlib.Core.List.{List, ◌++◌}
use Prim.Native.Nat.{ℕ, ◌+◌, ◌-◌, ◌*◌, ◌≤◌, ◌<◌}
use lib.ListN.{get_or, drop, replicate}
use lib.Ieee.{Float}
use Rattle.lines.specs.declared.Attribute.{Attribute}
use Rattle.lines.specs.declared.Span.{Span}
use Rattle.lines.specs.Passes.{through}
use Rattle.binary64.specs.Numbers.{nought}
use Rattle.lines.specs.Tables.{Model, Words}
use Rattle.lines.specs.Spans.{attribute_before_of, span_of, through_span}
use Rattle.lines.specs.Scored.{state_entry_of, scored_attribute, scored_at, scored_word, states_of}
use Rattle.lines.specs.Sound.{SoundLists, SoundStates}
use Rattle.lines.proofs.Laws.{through_end, list_pass}
use Rattle.lines.proofs.Fronts.{states_front}
use Rattle.lines.specs.Lent.{bare, with_states}
use Rattle.lines.proofs.Spans.{attribute_turn}

pub scored_turn : (m : Model) (weights : List Float) (d : Words) (word end a : ℕ) {attribute : Attribute} {span : Span} (t : List Float) {u : List Float} →
    a < end → attribute ≡ attribute_before_of d.ids d.values end a → span ≡ span_of m.attribute_lists_of.count m.attribute_lists_of.starts attribute.id → u ≡ through_span (state_entry_of m weights word attribute.value) span t →
    u ≡ scored_at m weights d word a t
unfolding scored_at scored_attribute
scored_turn m weights d word end a t h p q r =
    attribute_turn (state_entry_of m weights word) m.attribute_lists_of.count m.attribute_lists_of.starts d.ids d.values end a t h p q r

pub word_turn : (m : Model) (weights : List Float) (d : Words) (first word from to : ℕ) (t : List Float) {u : List Float} →
    from ≡ get_or d.starts (first + word) 0 → to ≡ get_or d.starts (first + word + 1) 0 → u ≡ through (scored_at m weights d word) from (to - from) t →
    u ≡ scored_word m weights d first word t
unfolding scored_word
word_turn m weights d first word from to t p q r = list_pass (scored_at m weights d word) d.starts (first + word) from to t p q r

-- the loop over words has ended: it saw of the model and of the line what it was lent, and that is all that state scores look at
pub line_end : (m : Model) (weights : List Float) (d : Words) (first words word : ℕ) (before : List Float) {cleared u : List Float} →
    SoundStates m.labels m.features.count m.features.kinds m.features.destinations weights → SoundLists m.attribute_lists_of.count m.attribute_lists_of.starts m.attribute_lists_of.entries m.features.count →
    word ≤ words → words ≤ word → cleared ≡ replicate (words * m.labels) nought ++ drop (words * m.labels) before →
    u ≡ through (scored_word (with_states bare m.labels m.features.count m.features.kinds m.features.destinations m.attribute_lists_of.count m.attribute_lists_of.starts m.attribute_lists_of.entries) weights (record { starts = d.starts; size = 0; ids = d.ids; values = d.values }) first) 0 word cleared →
    u ≡ states_of m weights d first words ++ drop (words * m.labels) before
unfolding scored_word scored_at scored_attribute state_entry_of
line_end m weights d first words word before {cleared} f l h k e r =
    r
    ∙ through_end (scored_word m weights d first) word words cleared h k
    ∙ ap (through (scored_word m weights d first) 0 words) e
    ∙ states_front m f l d first words (drop (words * m.labels) before)
