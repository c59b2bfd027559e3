-- `line_counts::add_note` meets its contract. Assumes nothing.
use borrow.Author.Tests.{eq-eqb, ne_eqb}
use Rattle.lines.specs.Passes.{raised}
use Rattle.line_counts.specs.Noted.{note_added}
use Rattle.line_counts.proofs.add_note.Goals as goal

pub returns-then-kinds-i-eq0 : goal.returns-then-kinds-i-eq0
unfolding note_added raised
returns-then-kinds-i-eq0 c = rw (eq-eqb _ _ c.if-kinds-i-eq0.true)

pub returns-else-kinds-i-eq0 : goal.returns-else-kinds-i-eq0
unfolding note_added
returns-else-kinds-i-eq0 c = rw (ne_eqb _ _ c.if-kinds-i-eq0.false)
