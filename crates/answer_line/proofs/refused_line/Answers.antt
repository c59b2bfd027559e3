-- `answer_line::refused_line` meets its contract: its parts, one after another, are the line. Assumes nothing.
use mathlib.Core.Path.{sym, ap}
use mathlib.Core.List.{[], ◌∷◌, ◌++◌}
use Rattle.answer_line.specs.Digits.{decimal}
use Rattle.byte_buffers.specs.Stored.{RoomFor, Put}
use Rattle.byte_buffers.proofs.Laws.{put_then, put_length, put_line, put_as, room_first, room_next, room_as}
use Rattle.answer_line.specs.Line.{space, line_feed, refused_line_of}
use Rattle.answer_line.proofs.refused_line.Goals.{After-put_byte, After-put_byte-gap, After-put_decimal-first, After-put_decimal-second, After-put_text-word}
use Rattle.answer_line.proofs.refused_line.Goals as goal

-- what is left to write, and the room for it, after each part
room_1 : (c : After-put_text-word) →
    let a = c.args in
    RoomFor (decimal a.number ++ (space ∷ (decimal a.place ++ (line_feed ∷ [])))) c.put_text-word.new.line c.put_text-word.result
unfolding refused_line_of
room_1 c = room_next _ c.put_text-word.ensures c.requires

room_2 : (c : After-put_decimal-first) →
    let a = c.args in
    RoomFor (space ∷ (decimal a.place ++ (line_feed ∷ []))) c.put_decimal-first.new.line c.put_decimal-first.result
unfolding refused_line_of
room_2 c =
    room_next _ (put_as (ap decimal c.from.ensures) c.put_decimal-first.ensures) (room_next _ c.put_text-word.ensures c.requires)

room_3 : (c : After-put_byte-gap) →
    let a = c.args in
    RoomFor (decimal a.place ++ (line_feed ∷ [])) c.put_byte-gap.new.buffer c.put_byte-gap.result
unfolding refused_line_of
room_3 c =
    room_next _ c.put_byte-gap.ensures
    (room_next _ (put_as (ap decimal c.from.ensures) c.put_decimal-first.ensures) (room_next _ c.put_text-word.ensures c.requires))

room_4 : (c : After-put_decimal-second) → RoomFor (line_feed ∷ []) c.put_decimal-second.new.line c.put_decimal-second.result
unfolding refused_line_of
room_4 c =
    room_next _ c.put_decimal-second.ensures
    (room_next _ c.put_byte-gap.ensures
    (room_next _ (put_as (ap decimal c.from.ensures) c.put_decimal-first.ensures) (room_next _ c.put_text-word.ensures c.requires)))

done : (c : After-put_byte) →
    let a = c.args in
    Put (refused_line_of a.number a.place) a.line.now 0 c.put_byte.result c.put_byte.new.buffer
unfolding refused_line_of
done c =
    put_then c.put_text-word.ensures (put_then (put_as (ap decimal c.from.ensures) c.put_decimal-first.ensures) (put_then c.put_byte-gap.ensures (put_then c.put_decimal-second.ensures c.put_byte.ensures)))

pub put_text-word-requires : goal.put_text-word-requires
unfolding refused_line_of
put_text-word-requires c =
    room_first _ _ c.requires

pub put_decimal-first-requires : goal.put_decimal-first-requires
put_decimal-first-requires c =
    room_as (ap decimal (sym c.from.ensures)) (room_first _ _ (room_1 (goal.at.put_decimal-first-requires c).After-put_text-word))

pub put_byte-gap-requires : goal.put_byte-gap-requires
put_byte-gap-requires c =
    room_first _ _ (room_2 (goal.at.put_byte-gap-requires c).After-put_decimal-first)

pub put_decimal-second-requires : goal.put_decimal-second-requires
put_decimal-second-requires c =
    room_first _ _ (room_3 (goal.at.put_decimal-second-requires c).After-put_byte-gap)

pub put_byte-requires : goal.put_byte-requires
put_byte-requires c =
    room_4 (goal.at.put_byte-requires c).After-put_decimal-second

pub shape_of-line : goal.shape_of-line
shape_of-line c =
    put_length (done (goal.at.shape_of-line c).After-put_byte)

pub returns : goal.returns
returns c =
    put_line c.requires (done (goal.at.returns c).After-put_byte)
