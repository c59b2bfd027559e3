-- `table_checks::check_starts` meets its contract, by the laws of a search. Assumes nothing.
use Rattle.std.proofs.Common.{refl, arith, ◌∙◌, add-one}
use Rattle.refusals.proofs.Laws.{begin, step, hits, ends}
use Rattle.table_checks.proofs.check_starts.Goals as goal

pub loop-i-init : goal.loop-i-init
loop-i-init c = (begin, refl)

pub returns-then-bad : goal.returns-then-bad
returns-then-bad c = hits c.loop-i.invariant.0 (omega arith) (rw c.loop-i.invariant.1 at c.if-bad.true) c.refused.ensures

pub loop-i-preserved : goal.loop-i-preserved
loop-i-preserved c = (step c.loop-i.invariant.0 (omega arith) (rw c.loop-i.invariant.1 at c.if-bad.false), rw add-one)

pub returns : goal.returns
returns c = ends c.loop-i.invariant.0 (omega arith)
