-- `line_counts::count_label` meets its contract. The loop's invariant: the entries before this one have counted. Assumes nothing.
use mathlib.Core.List.{[]}
use Rattle.lines.specs.Counted.{transition_count_of}
use Rattle.lines.specs.Lent.{bare, with_counts}
use Rattle.lines.proofs.Laws.{Passed}
use Rattle.line_counts.proofs.count_label.Given as goal

abbrev pub invariant-loop-e : goal.invariant-loop-e
invariant-loop-e l =
    Passed (transition_count_of (with_counts bare l.features l.kinds l.destinations l.sources 0 [] [] 0 [] l.entries) l.previous l.label) l.fn.span.first l.fn.span.last l.initial.counts l.counts l.e
