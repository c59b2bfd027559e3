-- `line_counts::add_notes` meets its contract. The loop's invariant: the notes before this one are added. Assumes nothing.
use mathlib.Core.Path.{◌∙◌}
use Rattle.lines.proofs.Laws.{through_none, through_next, through_end}
use Rattle.line_counts.specs.Noted.{notes_added}
use Rattle.line_counts.proofs.add_notes.Goals as goal

pub loop-j-init : goal.loop-j-init
loop-j-init c = through_none _ _ _

pub loop-j-preserved : goal.loop-j-preserved
loop-j-preserved c = through_next _ _ _ c.loop-j.invariant c.add_note.ensures

pub returns : goal.returns
unfolding notes_added
returns c =
    c.loop-j.invariant ∙ through_end _ _ _ _ c.loop-j.auto.j-end c.loop-j-test.false
