-- `passive_aggressive::settle` meets its contract. The loop's invariant: the notes before this one are added up. Assumes nothing.
use mathlib.Core.Path.{◌≡◌}
use Rattle.lines.specs.Passes.{through}
use Rattle.passive_aggressive.specs.Noted.{four_added}
use Rattle.passive_aggressive.proofs.settle.Given as goal

abbrev pub invariant-loop-first : goal.invariant-loop-first
invariant-loop-first l = l.s ≡ through (four_added l.truly l.predicted l.who) 0 l.first-index l.sum
