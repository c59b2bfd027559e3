-- `write_check::check_names` meets its contract, by the laws of a search. Assumes nothing.
use Rattle.std.proofs.Common.{arith}
use Rattle.refusals.proofs.Laws.{begin, step, hits, ends}
use Rattle.write_check.proofs.check_names.Goals as goal

pub loop-i-init : goal.loop-i-init
loop-i-init c = begin

pub returns-then-bad : goal.returns-then-bad
returns-then-bad c = hits c.loop-i.invariant (omega arith) (rw c.lacks_name-bad.ensures at c.if-bad.true) c.refused.ensures

pub loop-i-preserved : goal.loop-i-preserved
loop-i-preserved c = step c.loop-i.invariant (omega arith) (rw c.lacks_name-bad.ensures at c.if-bad.false)

pub returns : goal.returns
returns c = ends c.loop-i.invariant (omega arith)
