-- `refusals::refuse_if` meets its contract. Assumes nothing.
use Rattle.refusals.specs.Refusals.{refuse}
use Rattle.refusals.proofs.refuse_if.Goals as goal

pub returns-then-test : goal.returns-then-test
unfolding refuse
returns-then-test c = rw c.if-test.true c.refused.ensures

pub returns-else-test : goal.returns-else-test
unfolding refuse
returns-else-test c = rw c.if-test.false
