-- `arow::spread_of` meets its contract: the loop is a pass of `spread` from gamma. Assumes nothing.
use mathlib.Core.Path.{refl}
use Rattle.training.specs.Rules.{spread}
use Rattle.lines.proofs.Laws.{through_none, through_next}
use Rattle.arow.proofs.spread_of.Goals as goal

pub loop-i-init : goal.loop-i-init
loop-i-init c = through_none _ _ _

pub loop-i-preserved : goal.loop-i-preserved
unfolding spread
loop-i-preserved c = through_next _ _ _ c.loop-i.invariant refl
