-- `fronts::all_finite` meets its contract: twice the half is the whole front, or all but its last. Assumes nothing.
use native.Mathlib.Omega.{arith}
use Rattle.fronts.proofs.Finite.{odd_end, even_end}
use Rattle.fronts.proofs.all_finite.Goals as goal

pub returns-then-even-n : goal.returns-then-even-n
returns-then-even-n c = odd_end _ _ _ c.halves_finite-all.ensures c.is_finite.ensures (omega arith)

pub returns : goal.returns
returns c = even_end _ _ _ c.halves_finite-all.ensures (omega arith)
