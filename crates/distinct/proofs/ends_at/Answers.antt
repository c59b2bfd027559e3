-- `distinct::ends_at` meets its contract. Assumes nothing.
use Rattle.distinct.proofs.Loops.{ends_inside, ends_behind}
use Rattle.distinct.proofs.ends_at.Goals as goal

pub returns-then-at-text : goal.returns-then-at-text
returns-then-at-text c = ends_inside _ _ c.if-at-text.true

pub returns : goal.returns
returns c = ends_behind _ _ c.if-at-text.false
