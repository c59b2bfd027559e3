-- `passive_aggressive::differ` meets its contract: the loop is a pass of `differing`. Assumes nothing.
use mathlib.Core.Bool.{false}
use Prim.Native.Nat.{◌+◌}
use Rattle.lines.proofs.Laws.{Passed}
use Rattle.passive_aggressive.specs.Noted.{differing}
use Rattle.passive_aggressive.proofs.differ.Given as goal

abbrev pub invariant-loop-i : goal.invariant-loop-i
invariant-loop-i l = Passed (differing l.truly l.predicted) l.first (l.first + 4) false l.any l.i
