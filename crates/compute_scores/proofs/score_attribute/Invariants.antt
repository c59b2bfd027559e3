-- `compute_scores::score_attribute` meets its contract. The loop's invariant: the entries before this one are added. Assumes nothing.
use mathlib.Core.List.{[]}
use Rattle.lines.specs.Scored.{state_entry_of}
use Rattle.lines.proofs.Laws.{Passed}
use Rattle.lines.specs.Lent.{bare, with_states}
use Rattle.compute_scores.proofs.score_attribute.Given as goal

abbrev pub invariant-loop-e : goal.invariant-loop-e
invariant-loop-e l =
    Passed (state_entry_of (with_states bare l.labels l.features l.kinds l.destinations 0 [] l.entries) l.weights l.word l.value) l.fn.span.first l.fn.span.last l.initial.states l.states l.e
