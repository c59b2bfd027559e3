-- `fronts::halves_finite` meets its contract. The flag is the finite test of what was passed of each half. Assumes nothing.
use native.Mathlib.Omega.{arith}
use Rattle.fronts.proofs.Finite.{finite_none_both, halves_next, halves_end}
use Rattle.fronts.proofs.halves_finite.Goals as goal

pub loop-i-init : goal.loop-i-init
loop-i-init c = (omega arith, finite_none_both _ _)

pub loop-i-preserved : goal.loop-i-preserved
loop-i-preserved c = (omega arith, halves_next _ _ _ c.loop-i.invariant.1 c.are_finite-all.ensures)

pub returns : goal.returns
returns c = let l = c.loop-i in halves_end _ _ _ l.invariant.1 l.invariant.0 c.loop-i-test.false
