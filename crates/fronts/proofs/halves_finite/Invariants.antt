-- `fronts::halves_finite` meets its contract. The flag is the finite test of what was passed of each half. Assumes nothing.
use mathlib.Core.Bool.{◌&&◌}
use mathlib.Core.Path.{◌≡◌}
use Prim.Native.Nat.{◌≤◌}
use lib.ListN.{drop}
use Rattle.fronts.specs.Finite.{all_finite_of}
use Rattle.fronts.proofs.halves_finite.Given as goal

abbrev pub invariant-loop-i : goal.invariant-loop-i
invariant-loop-i l = (l.i ≤ l.half) × (l.all ≡ (all_finite_of l.table l.i && all_finite_of (drop l.half l.table) l.i))
