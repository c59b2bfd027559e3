-- `lines::list_span` meets its contract. Assumes nothing.
use borrow.Author.Tests.{lt-ltb, le-ltb}
use Rattle.lines.specs.Spans.{span_of}
use Rattle.lines.proofs.list_span.Goals as goal

pub returns-then-list-lists : goal.returns-then-list-lists
unfolding span_of
returns-then-list-lists c = rw (lt-ltb _ _ c.if-list-lists.true, c.at.ensures, c.at-then-list-lists.ensures)

pub returns : goal.returns
unfolding span_of
returns c = rw (le-ltb _ _ c.if-list-lists.false)
