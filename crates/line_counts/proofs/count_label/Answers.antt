-- `line_counts::count_label` meets its contract. The loop's invariant: the entries before this one have counted. Assumes nothing.
use Rattle.lines.proofs.Laws.{passed_none, passed_next}
use Rattle.line_counts.proofs.count_label.Goals as goal

pub loop-e-init : goal.loop-e-init
loop-e-init c = passed_none _ _ _

pub loop-e-preserved : goal.loop-e-preserved
loop-e-preserved c = passed_next c.loop-e.invariant c.loop-e-test.true c.transition_count.ensures
