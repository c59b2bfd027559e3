-- A turn of a loop over attributes or words is a step of counting. Assumes nothing.
use mathlib.Core.Path.{◌≡◌}
use mathlib.Core.List.{List}
use Prim.Native.Nat.{ℕ, ◌+◌, ◌-◌, ◌<◌}
use lib.ListN.{get_or}
use lib.Ieee.{Float}
use Rattle.lines.specs.declared.Attribute.{Attribute}
use Rattle.lines.specs.declared.Span.{Span}
use Rattle.lines.specs.Passes.{through}
use Rattle.lines.specs.Tables.{Model, Words}
use Rattle.lines.specs.Spans.{attribute_before_of, span_of, through_span}
use Rattle.lines.specs.Counted.{state_count, counted_attribute, counted_at, counted_word}
use Rattle.lines.proofs.Laws.{list_pass}
use Rattle.lines.proofs.Spans.{attribute_turn}

pub counted_turn : (m : Model) (d : Words) (label end a : ℕ) {attribute : Attribute} {span : Span} (t : List Float) {u : List Float} →
    a < end → attribute ≡ attribute_before_of d.ids d.values end a → span ≡ span_of m.attribute_lists_of.count m.attribute_lists_of.starts attribute.id → u ≡ through_span (state_count m label attribute.value) span t →
    u ≡ counted_at m d label a t
unfolding counted_at counted_attribute
counted_turn m d label end a t h p q r =
    attribute_turn (state_count m label) m.attribute_lists_of.count m.attribute_lists_of.starts d.ids d.values end a t h p q r

pub word_turn : (m : Model) (d : Words) (first : ℕ) (labels : List ℕ) (word from to : ℕ) (t : List Float) {u : List Float} →
    from ≡ get_or d.starts (first + word) 0 → to ≡ get_or d.starts (first + word + 1) 0 → u ≡ through (counted_at m d (get_or labels word 0)) from (to - from) t →
    u ≡ counted_word m d first labels word t
unfolding counted_word
word_turn m d first labels word from to t p q r = list_pass (counted_at m d (get_or labels word 0)) d.starts (first + word) from to t p q r
