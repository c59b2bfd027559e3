-- `line_counts::count_words` meets its contract. The loop's invariant: once the notes are added, the words before this one have counted. Assumes nothing.
use mathlib.Core.Path.{◌≡◌}
use mathlib.Core.List.{[]}
use Rattle.lines.specs.Passes.{through}
use Rattle.lines.specs.Counted.{counted_word}
use Rattle.lines.specs.Lent.{bare, with_counts}
use Rattle.line_counts.specs.Noted.{notes_added}
use Rattle.line_counts.proofs.Notes.{Going}
use Rattle.line_counts.proofs.count_words.Given as goal

abbrev pub invariant-loop-word : goal.invariant-loop-word
invariant-loop-word l =
    Going l.features l.who l.what l.noted
    × (notes_added l.kinds l.who l.what l.noted l.counts ≡ through (counted_word (with_counts bare l.features l.kinds l.destinations [] l.lists l.starts l.entries 0 [] []) (record { starts = l.begins; size = 0; ids = l.ids; values = l.values }) l.first l.labels) 0 l.word l.initial.counts)
