-- `line_counts::add_notes` meets its contract. The loop's invariant: the notes before this one are added. Assumes nothing.
use mathlib.Core.Path.{◌≡◌}
use Rattle.lines.specs.Passes.{through}
use Rattle.line_counts.specs.Noted.{note_added}
use Rattle.line_counts.proofs.add_notes.Given as goal

abbrev pub invariant-loop-j : goal.invariant-loop-j
invariant-loop-j l = l.counts ≡ through (note_added l.kinds l.who l.what) 0 l.j l.initial.counts
