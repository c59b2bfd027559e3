-- `passive_aggressive::margin` meets its contract. Assumes nothing.
use lib.Ieee.{of_bits, of_int}
use Rattle.roots.proofs.Laws.{root_is}
use Rattle.passive_aggressive.proofs.margin.Goals as goal

pub returns-then-sensitive : goal.returns-then-sensitive
returns-then-sensitive c = rw (c.if-sensitive.true, root_is _ _ c.requires c.root.ensures)

pub returns-else-sensitive : goal.returns-else-sensitive
unfolding of_bits of_int
returns-else-sensitive c = rw c.if-sensitive.false
