-- `fill_text::fill_attributes` meets its contract. Assumes nothing.
use Prim.Native.Nat.{◌+◌, ◌-◌}
use lib.ListN.{length}
use Rattle.fill_text.proofs.KeptOn.{KeptGoing}
use Rattle.fill_text.proofs.fill_attributes.Given as goal

abbrev pub invariant-loop-cursor : goal.invariant-loop-cursor
invariant-loop-cursor l =
    KeptGoing l.text l.initial.ids l.initial.values l.initial.starts l.initial.scales l.ids l.values l.starts l.scales l.cursor l.so_far

abbrev pub decreases-loop-cursor : goal.decreases-loop-cursor
decreases-loop-cursor l =
    length l.text + 1 - l.cursor.at
