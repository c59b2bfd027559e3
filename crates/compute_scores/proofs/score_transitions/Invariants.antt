-- `compute_scores::score_transitions` meets its contract. The loop's invariant: the label lists before this one are added. Assumes nothing.
use mathlib.Core.Path.{◌≡◌}
use Rattle.lines.specs.Passes.{through, through_list}
use Rattle.lines.specs.Scored.{transition_entry_of}
use Rattle.lines.specs.Lent.{bare, with_transitions}
use Rattle.compute_scores.proofs.score_transitions.Given as goal

abbrev pub invariant-loop-label : goal.invariant-loop-label
invariant-loop-label l =
    l.transitions ≡ through (through_list (transition_entry_of (with_transitions bare l.labels l.features l.kinds l.destinations l.sources l.lists l.starts l.entries) l.weights) l.starts) 0 l.label l.initial.transitions
