-- `positive_zero` meets its contract. Assumes nothing.
use lib.Ieee.{of_bits}
use Rattle.best_path.specs.Lead.{positive_zero_of}
use Rattle.viterbi_end.proofs.positive_zero.Goals as goal

pub returns-then-x : goal.returns-then-x
unfolding positive_zero_of of_bits
returns-then-x c = rw c.if-x.true

pub returns-else-x : goal.returns-else-x
unfolding positive_zero_of of_bits
returns-else-x c = rw c.if-x.false
