-- `compute_scores::score_word` meets its contract. The loop's invariant: the attributes before this one are scored, and this one and the places of its list are at hand. Assumes nothing.
use mathlib.Core.Path.{◌≡◌}
use mathlib.Core.List.{[]}
use Rattle.lines.specs.Spans.{attribute_before_of, span_of}
use Rattle.lines.specs.Scored.{scored_at}
use Rattle.lines.proofs.Laws.{Passed}
use Rattle.lines.specs.Lent.{bare, with_states}
use Rattle.compute_scores.proofs.score_word.Given as goal

abbrev pub invariant-loop-a : goal.invariant-loop-a
invariant-loop-a l =
    Passed (scored_at (with_states bare l.labels l.features l.kinds l.destinations l.lists l.starts l.entries) l.weights (record { starts = []; size = 0; ids = l.ids; values = l.values }) l.word) l.from l.to l.initial.states l.states l.a
    × (l.attribute ≡ attribute_before_of l.ids l.values l.to l.a)
    × (l.span ≡ span_of l.lists l.starts l.attribute.id)
