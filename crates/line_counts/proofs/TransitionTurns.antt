-- A turn of the loop over the words from the second on is a step of counting. Assumes nothing.
use mathlib.Core.Path.{◌≡◌, ap, ◌∙◌}
use mathlib.Core.List.{List}
use Prim.Native.Nat.{ℕ, ◌-◌}
use lib.ListN.{get_or}
use lib.Ieee.{Float}
use Rattle.lines.specs.declared.Span.{Span}
use Rattle.lines.specs.Tables.{Model}
use Rattle.lines.specs.Spans.{span_of, through_span}
use Rattle.lines.specs.Counted.{transition_count_of, counted_transition}
use Rattle.lines.proofs.Spans.{span_pass}

pub transition_turn : (m : Model) (labels : List ℕ) (word : ℕ) {span : Span} (t : List Float) {u : List Float} →
    span ≡ span_of m.label_lists_of.count m.label_lists_of.starts (get_or labels (word - 1) 0) → u ≡ through_span (transition_count_of m (get_or labels (word - 1) 0) (get_or labels word 0)) span t →
    u ≡ counted_transition m labels word t
unfolding counted_transition
transition_turn m labels word t q r =
    r
    ∙ ap (λ (z : Span). through_span (transition_count_of m (get_or labels (word - 1) 0) (get_or labels word 0)) z t) q
    ∙ span_pass (transition_count_of m (get_or labels (word - 1) 0) (get_or labels word 0)) m.label_lists_of.count m.label_lists_of.starts (get_or labels (word - 1) 0) t
