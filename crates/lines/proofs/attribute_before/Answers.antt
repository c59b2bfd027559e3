-- `lines::attribute_before` meets its contract. Assumes nothing.
use Rattle.lines.specs.Spans.{attribute_before_of}
use Rattle.lines.proofs.attribute_before.Goals as goal

pub returns : goal.returns
unfolding attribute_before_of
returns c = rw c.min-i.ensures
