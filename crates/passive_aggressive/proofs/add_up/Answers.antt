-- `passive_aggressive::add_up` meets its contract: the loop is a pass of `squared`. Assumes nothing.
use mathlib.Core.Path.{refl}
use Rattle.training.specs.Rules.{squared}
use Rattle.lines.proofs.Laws.{passed_none, passed_next}
use Rattle.passive_aggressive.proofs.add_up.Goals as goal

pub loop-i-init : goal.loop-i-init
loop-i-init c = passed_none _ _ _

pub loop-i-preserved : goal.loop-i-preserved
unfolding squared
loop-i-preserved c =
    passed_next c.loop-i.invariant c.loop-i-test.true refl
