-- `passive_aggressive::add_up` meets its contract: the loop is a pass of `squared`. Assumes nothing.
use Rattle.training.specs.Rules.{squared}
use Rattle.lines.proofs.Laws.{Passed}
use Rattle.passive_aggressive.proofs.add_up.Given as goal

abbrev pub invariant-loop-i : goal.invariant-loop-i
invariant-loop-i l = Passed (squared l.truly l.predicted) l.first l.last l.sum l.s l.i
