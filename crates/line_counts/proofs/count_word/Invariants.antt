-- `line_counts::count_word` meets its contract. The loop's invariant: once the notes are added, the attributes before this one have counted; this one and the places of its list are at hand. Assumes nothing.
use mathlib.Core.Path.{◌≡◌}
use mathlib.Core.List.{[]}
use Rattle.lines.specs.Spans.{attribute_before_of, span_of}
use Rattle.lines.specs.Counted.{counted_at}
use Rattle.lines.specs.Lent.{bare, with_counts}
use Rattle.lines.proofs.Laws.{Passed}
use Rattle.line_counts.specs.Noted.{notes_added}
use Rattle.line_counts.proofs.Notes.{Going}
use Rattle.line_counts.proofs.count_word.Given as goal

abbrev pub invariant-loop-a : goal.invariant-loop-a
invariant-loop-a l =
    Going l.features l.who l.what l.n
    × Passed (counted_at (with_counts bare l.features l.kinds l.destinations [] l.lists l.starts l.entries 0 [] []) (record { starts = []; size = 0; ids = l.ids; values = l.values }) l.label) l.from l.to (notes_added l.kinds l.initial.who l.initial.what l.noted l.initial.counts) (notes_added l.kinds l.who l.what l.n l.counts) l.a
    × (l.attribute ≡ attribute_before_of l.ids l.values l.to l.a)
    × (l.span ≡ span_of l.lists l.starts l.attribute.id)
