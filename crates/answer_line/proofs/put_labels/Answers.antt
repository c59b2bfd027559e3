-- `answer_line::put_labels` meets its contract. The loop's invariant: there is room for the labels that are left, and whatever writes them has written all but the first. Assumes nothing.
use mathlib.Core.Path.{sym, ap}
use mathlib.Core.List.{List, ◌∷◌, ◌++◌}
use Prim.Native.Nat.{ℕ, ◌+◌, ◌-◌}
use lib.ListN.{length, get_or, take, drop}
use Rattle.answer_line.specs.Digits.{decimal}
use Rattle.byte_buffers.specs.Stored.{RoomFor, Put}
use Rattle.byte_buffers.proofs.Laws.{put_then, put_nothing, put_length, put_as, room_first, room_next, room_as}
use Rattle.answer_line.specs.Line.{comma, further_labels, joined_labels}
use Rattle.answer_line.proofs.Laws.{first_label, next_label, no_label}
use Rattle.answer_line.proofs.put_labels.Goals.{After-loop-label, After-put_decimal-at, After-put_decimal-at-in-loop-label, In-loop-label, Start}
use Rattle.answer_line.proofs.put_labels.Goals as goal

-- the labels after the first
abbrev others : List ℕ → List ℕ
others labels = take (length labels - 1) (drop 1 labels)

-- the first label
first : (c : After-put_decimal-at) →
    let a = c.args in
    Put (decimal (get_or a.labels.now 0 0)) a.line.now a.start c.put_decimal-at.result c.put_decimal-at.new.line
first c =
    put_as (ap decimal c.from.ensures) c.put_decimal-at.ensures

-- a further one
further : (c : After-put_decimal-at-in-loop-label) →
    Put (decimal (get_or (others c.args.labels.now) c.loop-label.label-index 0)) c.put_byte-next.new.buffer c.put_byte-next.result c.put_decimal-at-in-loop-label.result c.put_decimal-at-in-loop-label.new.line
further c =
    put_as (ap decimal c.from-in-loop-label.ensures) c.put_decimal-at-in-loop-label.ensures

-- the first label, then the others
done : (c : After-loop-label) →
    let a = c.args in
    Put (joined_labels a.labels.now) a.line.now a.start c.loop-label.at c.loop-label.line
done c =
    put_as (sym (first_label c.args.labels.now c.requires.labels_nonzero))
    (put_then (put_as (ap decimal c.from.ensures) c.put_decimal-at.ensures) (c.loop-label.invariant.1 _ _ (put_nothing (no_label _ _ c.loop-label-test.false))))

-- the room for the first, and for the next in a turn
room_1 : (c : Start) → RoomFor (decimal (get_or c.args.labels.now 0 0) ++ further_labels (others c.args.labels.now)) c.args.line.now c.args.start
room_1 c = room_as (first_label c.args.labels.now c.requires.labels_nonzero) c.requires.room_for

room_2 : (c : In-loop-label) →
    let labels = others c.args.labels.now in
    RoomFor (comma ∷ (decimal (get_or labels c.loop-label.label-index 0) ++ further_labels (drop (c.loop-label.label-index + 1) labels))) c.loop-label.line c.loop-label.at
room_2 c = room_as (next_label _ _ c.loop-label-test.true) c.loop-label.invariant.0

pub put_decimal-at-requires : goal.put_decimal-at-requires
put_decimal-at-requires c =
    room_as (ap decimal (sym c.from.ensures)) (room_first _ _ (room_1 (goal.at.put_decimal-at-requires c).Start))

pub loop-label-init : goal.loop-label-init
loop-label-init c =
    (room_next _ (first (goal.at.loop-label-init c).After-put_decimal-at) (room_1 (goal.at.loop-label-init c).Start), λ end after p. p)

pub put_byte-next-requires : goal.put_byte-next-requires
put_byte-next-requires c =
    room_first _ _ (room_2 (goal.at.put_byte-next-requires c).In-loop-label)

pub put_decimal-at-requires-in-loop-label : goal.put_decimal-at-requires-in-loop-label
put_decimal-at-requires-in-loop-label c =
    room_as (ap decimal (sym c.from-in-loop-label.ensures)) (room_first _ _ (room_next _ c.put_byte-next.ensures (room_2 (goal.at.put_decimal-at-requires-in-loop-label c).In-loop-label)))

pub loop-label-preserved : goal.loop-label-preserved
loop-label-preserved c =
    let e = next_label (others c.args.labels.now) c.loop-label.label-index c.loop-label-test.true in (
      room_next _ (further (goal.at.loop-label-preserved c).After-put_decimal-at-in-loop-label) (room_next _ c.put_byte-next.ensures (room_2 (goal.at.loop-label-preserved c).In-loop-label)),
      λ end after q. c.loop-label.invariant.1 end after (put_as (sym e) (put_then c.put_byte-next.ensures (put_then (further (goal.at.loop-label-preserved c).After-put_decimal-at-in-loop-label) q))),
    )

pub shape_of-line : goal.shape_of-line
shape_of-line c = put_length (done (goal.at.shape_of-line c).After-loop-label)

pub returns : goal.returns
returns c = done (goal.at.returns c).After-loop-label
