-- `line_counts::count_attribute` meets its contract. The loop's invariant: once the notes are added, the entries before this one have counted. Assumes nothing.
use mathlib.Core.List.{[]}
use Rattle.lines.specs.Counted.{state_count}
use Rattle.lines.specs.Lent.{bare, with_counts}
use Rattle.lines.proofs.Laws.{Passed}
use Rattle.line_counts.specs.Noted.{notes_added}
use Rattle.line_counts.proofs.Notes.{Going}
use Rattle.line_counts.proofs.count_attribute.Given as goal

abbrev pub invariant-loop-e : goal.invariant-loop-e
invariant-loop-e l =
    Going l.features l.who l.what l.n
    × Passed (state_count (with_counts bare l.features l.kinds l.destinations [] 0 [] l.entries 0 [] []) l.label l.value) l.fn.span.first l.fn.span.last (notes_added l.kinds l.initial.who l.initial.what l.noted l.initial.counts) (notes_added l.kinds l.who l.what l.n l.counts) l.e
