-- `fold_previous` meets its contract. The loop's invariant: the labels passed have taken their candidate or not, and the others are as they were. Assumes nothing.
use mathlib.Core.Path.{◌≡◌}
use Rattle.viterbi_steps.specs.Written.{written}
use Rattle.viterbi_steps.specs.Rows.{onward, score_tried, mark_tried}
use Rattle.viterbi_steps.proofs.fold_previous.Given as goal

abbrev pub invariant-loop-label : goal.invariant-loop-label
invariant-loop-label l =
    let candidates = onward l.score l.transitions l.base l.states l.at in
    (l.next ≡ written 0 (score_tried candidates l.initial.next) l.label l.initial.next)
    × (l.from ≡ written 0 (mark_tried candidates l.initial.next l.mark l.initial.from) l.label l.initial.from)
