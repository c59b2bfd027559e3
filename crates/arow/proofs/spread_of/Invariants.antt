-- `arow::spread_of` meets its contract: the loop is a pass of `spread` from gamma. Assumes nothing.
use mathlib.Core.Path.{◌≡◌}
use Rattle.lines.specs.Passes.{through}
use Rattle.training.specs.Rules.{spread}
use Rattle.arow.proofs.spread_of.Given as goal

abbrev pub invariant-loop-i : goal.invariant-loop-i
invariant-loop-i l = l.frac ≡ through (spread l.truly l.predicted l.weight l.covariance) 0 l.i l.gamma
