-- `table_checks::check_sources` meets its contract, by the laws of a search. Assumes nothing.
use Rattle.std.proofs.Common.{arith, sym}
use Rattle.refusals.proofs.Laws.{begin, step, hits, ends}
use Rattle.table_checks.proofs.check_sources.Goals as goal

pub returns-then-all_sources : goal.returns-then-all_sources
returns-then-all_sources c = sym (c.all_sources.ensures c.if-all_sources.true)

pub loop-i-init : goal.loop-i-init
loop-i-init c = begin

pub returns-then-bad : goal.returns-then-bad
returns-then-bad c = hits c.loop-i.invariant (omega arith) c.if-bad.true c.refused.ensures

pub loop-i-preserved : goal.loop-i-preserved
loop-i-preserved c = step c.loop-i.invariant (omega arith) c.if-bad.false

pub returns : goal.returns
returns c = ends c.loop-i.invariant (omega arith)
