-- `answer_line::put_labels` meets its contract. The loop's invariant: there is room for the labels that are left, and whatever writes them has written all but the first. Assumes nothing.
use mathlib.Core.List.{List}
use Prim.Native.Nat.{ℕ}
use lib.ListN.{drop}
use Rattle.byte_buffers.specs.Stored.{RoomFor, Put}
use Rattle.answer_line.specs.Line.{further_labels}
use Rattle.answer_line.proofs.put_labels.Given as goal

abbrev pub invariant-loop-label : goal.invariant-loop-label
invariant-loop-label l =
    let left = further_labels (drop l.label-index l.label-items) in
    RoomFor left l.line l.at
    × ((end : ℕ) (after : List ℕ) → Put left l.line l.at end after → Put (further_labels l.label-items) l.initial.line l.initial.at end after)
