-- `whence` meets its contract: each arm returns what `cond` picks where the test is as the arm found it. Assumes nothing.

use Rattle.viterbi_steps.proofs.whence.Goals as goal

pub returns-then-old-new : goal.returns-then-old-new
returns-then-old-new c = rw c.if-old-new.true

pub returns-else-old-new : goal.returns-else-old-new
returns-else-old-new c = rw c.if-old-new.false
