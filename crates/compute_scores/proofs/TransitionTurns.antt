-- The end of the loop over label lists is the end of scoring transitions. Assumes nothing.
use mathlib.Core.Path.{◌≡◌, ap, ◌∙◌}
use mathlib.Core.List.{List, ◌++◌}
use Prim.Native.Nat.{ℕ, ◌*◌, ◌≤◌, min}
use lib.ListN.{drop, replicate}
use lib.Ieee.{Float}
use Rattle.lines.specs.Passes.{through, through_list}
use Rattle.binary64.specs.Numbers.{nought}
use Rattle.lines.specs.Tables.{Model}
use Rattle.lines.specs.Scored.{transition_entry_of, transitions_of}
use Rattle.lines.specs.Sound.{SoundLists, SoundTransitions}
use Rattle.lines.proofs.Laws.{through_end}
use Rattle.lines.proofs.Fronts.{transitions_front}
use Rattle.lines.specs.Lent.{bare, with_transitions}

-- the loop has ended: it saw of the model what it was lent, and that is all that transition scores look at
pub labels_end : (m : Model) (weights : List Float) (shared label : ℕ) (before : List Float) {cleared u : List Float} →
    SoundTransitions m.labels m.features.count m.features.kinds m.features.destinations m.features.sources weights → SoundLists m.label_lists_of.count m.label_lists_of.starts m.label_lists_of.entries m.features.count →
    shared ≡ min m.labels m.label_lists_of.count → label ≤ shared → shared ≤ label → cleared ≡ replicate (m.labels * m.labels) nought ++ drop (m.labels * m.labels) before →
    u ≡ through (through_list (transition_entry_of (with_transitions bare m.labels m.features.count m.features.kinds m.features.destinations m.features.sources m.label_lists_of.count m.label_lists_of.starts m.label_lists_of.entries) weights) m.label_lists_of.starts) 0 label cleared →
    u ≡ transitions_of m weights ++ drop (m.labels * m.labels) before
unfolding transition_entry_of
labels_end m weights shared label before {cleared} f l n h k e r =
    r
    ∙ through_end (through_list (transition_entry_of m weights) m.label_lists_of.starts) label shared cleared h k
    ∙ ap (λ (z : ℕ). through (through_list (transition_entry_of m weights) m.label_lists_of.starts) 0 z cleared) n
    ∙ ap (through (through_list (transition_entry_of m weights) m.label_lists_of.starts) 0 (min m.labels m.label_lists_of.count)) e
    ∙ transitions_front m f l (drop (m.labels * m.labels) before)
