-- `binary64::is_finite` meets its contract. Assumes nothing.
use lib.Ieee.{of_bits, neg, div}
use Rattle.binary64.proofs.Finite.{below, above}
use Rattle.binary64.proofs.is_finite.Goals as goal

pub returns-then-x : goal.returns-then-x
unfolding of_bits neg div
returns-then-x c = below c.args.x c.if-x.true

pub returns-else-x : goal.returns-else-x
unfolding of_bits neg div
returns-else-x c = above c.args.x c.if-x.false
