-- `compute_scores::score_line` meets its contract. The loop's invariant: the words before this one are scored. Assumes nothing.
use mathlib.Core.Path.{◌≡◌}
use Rattle.lines.specs.Passes.{through}
use Rattle.lines.specs.Scored.{scored_word}
use Rattle.lines.specs.Lent.{bare, with_states}
use Rattle.compute_scores.proofs.score_line.Given as goal

abbrev pub invariant-loop-word : goal.invariant-loop-word
invariant-loop-word l =
    l.states ≡ through (scored_word (with_states bare l.labels l.features l.kinds l.destinations l.lists l.starts l.entries) l.weights (record { starts = l.begins; size = 0; ids = l.ids; values = l.values }) l.first) 0 l.word l.initial.states
