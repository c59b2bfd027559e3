-- `look::plain_run` meets its contract. Assumes nothing.
use Rattle.look.proofs.Walk.{one_further, plain_on}
use Rattle.look.proofs.plain_run.Goals as goal

pub loop-i-preserved : goal.loop-i-preserved
loop-i-preserved c =
    one_further _ _ _ _ c.requires c.loop-i.invariant c.loop-i-test.true (λ k. plain_on k _ c.if-b.false)
