-- `line_counts::count_transitions` meets its contract. The loop's invariant: the words before this one have counted. Assumes nothing.
use mathlib.Core.List.{[]}
use Rattle.lines.specs.Counted.{counted_transition}
use Rattle.lines.specs.Lent.{bare, with_counts}
use Rattle.lines.proofs.Laws.{Passed}
use Rattle.line_counts.proofs.count_transitions.Given as goal

abbrev pub invariant-loop-word : goal.invariant-loop-word
invariant-loop-word l =
    Passed (counted_transition (with_counts bare l.features l.kinds l.destinations l.sources 0 [] [] l.lists l.starts l.entries) l.labels) 1 l.words l.initial.counts l.counts l.word
