-- `answer_line::places` meets its contract. The loop's invariant: the places counted and those of the rest make all of them, and the rest has no more than are left of twenty. Assumes nothing.
use Prim.Native.Nat.{◌≤◌, ◌<◌, ◌+◌, ◌-◌, ◌^◌}
use mathlib.Core.Path.{◌≡◌}
use Rattle.answer_line.specs.Digits.{places_within, decimal_places}
use Rattle.answer_line.proofs.places.Given as goal

abbrev pub invariant-loop-rest : goal.invariant-loop-rest
invariant-loop-rest l = (0 < l.k) × (l.k ≤ 20) × (l.rest < 10 ^ (21 - l.k)) × (places_within (21 - l.k) l.rest + l.k ≡ decimal_places l.n + 1)

abbrev pub decreases-loop-rest : goal.decreases-loop-rest
decreases-loop-rest l = l.rest
