-- `set_weights::copy_front` meets its contract: what is passed is the new table's, what is left the old one's. Assumes nothing.
use Rattle.std.proofs.Common.{arith}
use Rattle.set_weights.proofs.Front.{none_filled, one_more, all_filled}
use Rattle.set_weights.proofs.copy_front.Goals as goal

pub loop-i-init : goal.loop-i-init
loop-i-init c = none_filled _ _ _

pub loop-i-preserved : goal.loop-i-preserved
loop-i-preserved c = one_more _ _ _ _ _ (omega arith) c.requires.n_in_bounds c.requires.n_in_bounds_2 c.loop-i.invariant

pub returns : goal.returns
returns c = all_filled _ _ _ _ _ (omega arith) c.loop-i.invariant
