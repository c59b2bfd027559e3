-- `shuffle::shuffle` meets its contract. The loop's invariant: what is left to do, done to what there is, gives what is promised. Assumes nothing.
use Prim.Native.Nat.{◌-◌, ◌<◌}
use mathlib.Core.Path.{◌≡◌}
use Rattle.shuffle.specs.Shuffle.{shuffled_from, shuffled}
use Rattle.shuffle.proofs.shuffle.Given as goal

abbrev pub invariant-loop-i : goal.invariant-loop-i
invariant-loop-i l =
    (0 < l.i) × (shuffled_from (l.i - 1) (record { state = l.s; order = l.order }) ≡ shuffled l.n (record { state = l.state; order = l.initial.order }))
