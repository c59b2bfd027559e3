-- `text_writing::escaped_length` meets its contract. Assumes nothing.
use mathlib.Core.Path.{◌≡◌}
use Prim.Native.Nat.{◌+◌, ◌*◌, ◌≤◌}
use lib.ListN.{length, drop}
use Rattle.layout.specs.Layout.{escaped}
use Rattle.text_writing.proofs.escaped_length.Given as goal

abbrev pub invariant-loop-b : goal.invariant-loop-b
invariant-loop-b l = (l.count + length (escaped (drop l.b-index l.b-items)) ≡ length (escaped l.b-items)) × (l.count ≤ 2 * l.b-index)
