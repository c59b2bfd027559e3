-- `compute_scores::score_label` meets its contract. The loop's invariant: the entries before this one are added. Assumes nothing.
use mathlib.Core.List.{[]}
use Rattle.lines.specs.Scored.{transition_entry_of}
use Rattle.lines.proofs.Laws.{Passed}
use Rattle.lines.specs.Lent.{bare, with_transitions}
use Rattle.compute_scores.proofs.score_label.Given as goal

abbrev pub invariant-loop-e : goal.invariant-loop-e
invariant-loop-e l =
    Passed (transition_entry_of (with_transitions bare l.labels l.features l.kinds l.destinations l.sources 0 [] l.entries) l.weights) l.fn.span.first l.fn.span.last l.initial.transitions l.transitions l.e
