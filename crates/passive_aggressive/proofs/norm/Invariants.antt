-- `passive_aggressive::norm` meets its contract. The loop's invariant: once the notes are added up, the features before this one are in the sum. Assumes nothing.
use Prim.Native.Nat.{◌*◌, ◌<◌}
use Rattle.passive_aggressive.proofs.Notes.{Going}
use Rattle.passive_aggressive.proofs.norm.Given as goal

abbrev pub invariant-loop-four : goal.invariant-loop-four
invariant-loop-four l = Going l.features l.truly l.predicted l.who l.noted l.sum (4 * l.four) × (l.noted < 32)
