-- `passive_aggressive::differ` meets its contract: the loop is a pass of `differing`. Assumes nothing.
use mathlib.Core.Path.{refl}
use lib.Ieee.{of_bits}
use Rattle.lines.proofs.Laws.{passed_none, passed_next}
use Rattle.passive_aggressive.specs.Noted.{differing}
use Rattle.passive_aggressive.proofs.differ.Goals as goal

pub loop-i-init : goal.loop-i-init
loop-i-init c = passed_none _ _ _

pub loop-i-preserved : goal.loop-i-preserved
unfolding differing of_bits
loop-i-preserved c =
    passed_next c.loop-i.invariant c.loop-i-test.true refl
