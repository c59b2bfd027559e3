-- `table_checks::check_kinds` meets its contract, by the laws of a search. Assumes nothing.
use Rattle.std.proofs.Common.{arith, sym}
use Rattle.refusals.proofs.Laws.{begin, step, hits, ends}
use Rattle.std.proofs.lemmas.Bool.{lt-ltb, le-ltb}
use Rattle.table_checks.proofs.check_kinds.Goals as goal

pub returns-then-all_kinds : goal.returns-then-all_kinds
returns-then-all_kinds c = sym (c.all_kinds.ensures c.if-all_kinds.true)

pub loop-i-init : goal.loop-i-init
loop-i-init c = begin

pub returns-then-bad : goal.returns-then-bad
returns-then-bad c = hits c.loop-i.invariant (omega arith) (lt-ltb _ _ c.if-bad.true) c.refused.ensures

pub loop-i-preserved : goal.loop-i-preserved
loop-i-preserved c = step c.loop-i.invariant (omega arith) (le-ltb _ _ c.if-bad.false)

pub returns : goal.returns
returns c = ends c.loop-i.invariant (omega arith)
