-- `table_checks::all_kinds` meets its contract: while the flag holds, no place so far is refused. Assumes nothing.
use Rattle.std.proofs.Common.{arith}
use Rattle.table_checks.proofs.Passing.{pass_begin, pass_end, kind_step}
use Rattle.table_checks.proofs.all_kinds.Goals as goal

pub loop-i-init : goal.loop-i-init
loop-i-init c = pass_begin

pub loop-i-preserved : goal.loop-i-preserved
loop-i-preserved c = let a = c.args in kind_step a.kinds.now c.loop-i.invariant (omega arith)

pub returns : goal.returns
returns c = pass_end c.loop-i.invariant (omega arith)
