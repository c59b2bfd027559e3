-- `answer_line::path_line` meets its contract. Assumes nothing.
use borrow.Author.Rules.{rules}
use mathlib.Core.List.{[], ◌∷◌, ◌++◌}
use native.Mathlib.Omega.{arith}
use lib.Ieee.{binary64, to_bits}
use Rattle.answer_line.specs.Digits.{digits}
use Rattle.byte_buffers.specs.Stored.{RoomFor, Put}
use Rattle.byte_buffers.proofs.Laws.{put_then, put_length, put_line, room_first, room_next}
use Rattle.answer_line.specs.Line.{space, line_feed, sum_digits, joined_labels, path_line_of}
use Rattle.answer_line.proofs.Laws.{length_digits}
use Rattle.answer_line.proofs.path_line.Goals.{After-put_byte, After-put_byte-gap, After-put_digits-bits, After-put_labels-end, After-put_text-word}
use Rattle.answer_line.proofs.path_line.Goals as goal

-- what is left to write, and the room for it, after each part
room_1 : (c : After-put_text-word) →
    let a = c.args in
    RoomFor (sum_digits a.sum ++ (space ∷ (joined_labels a.labels.now ++ (line_feed ∷ [])))) c.put_text-word.new.line c.put_text-word.result
unfolding path_line_of
room_1 c = room_next _ c.put_text-word.ensures c.requires.room_for

room_2 : (c : After-put_digits-bits) →
    let a = c.args in
    RoomFor (space ∷ (joined_labels a.labels.now ++ (line_feed ∷ []))) c.put_digits-bits.new.line c.put_digits-bits.result
unfolding path_line_of
room_2 c = room_next _ c.put_digits-bits.ensures (room_next _ c.put_text-word.ensures c.requires.room_for)

room_3 : (c : After-put_byte-gap) →
    let a = c.args in
    RoomFor (joined_labels a.labels.now ++ (line_feed ∷ [])) c.put_byte-gap.new.buffer c.put_byte-gap.result
unfolding path_line_of
room_3 c =
    room_next _ c.put_byte-gap.ensures
    (room_next _ c.put_digits-bits.ensures (room_next _ c.put_text-word.ensures c.requires.room_for))

room_4 : (c : After-put_labels-end) → RoomFor (line_feed ∷ []) c.put_labels-end.new.line c.put_labels-end.result
unfolding path_line_of
room_4 c =
    room_next _ c.put_labels-end.ensures
    (room_next _ c.put_byte-gap.ensures
    (room_next _ c.put_digits-bits.ensures (room_next _ c.put_text-word.ensures c.requires.room_for)))

done : (c : After-put_byte) →
    let a = c.args in
    Put (path_line_of a.sum a.labels.now) a.line.now 0 c.put_byte.result c.put_byte.new.buffer
unfolding path_line_of
done c =
    put_then c.put_text-word.ensures (put_then c.put_digits-bits.ensures (put_then c.put_byte-gap.ensures (put_then c.put_labels-end.ensures c.put_byte.ensures)))

pub put_text-word-requires : goal.put_text-word-requires
unfolding path_line_of
put_text-word-requires c =
    room_first _ _ c.requires.room_for

pub put_digits-bits-requires : goal.put_digits-bits-requires
put_digits-bits-requires c =
    let bits = to_bits binary64 c.args.sum in
    let r = (room_first (digits 16 16 bits) _ (room_1 (goal.at.put_digits-bits-requires c).After-put_text-word)).room in
    record { base_nonzero = search rules; k_in_bounds = omega (arith, length_digits 16 16 bits) }

pub put_byte-gap-requires : goal.put_byte-gap-requires
put_byte-gap-requires c =
    room_first _ _ (room_2 (goal.at.put_byte-gap-requires c).After-put_digits-bits)

pub put_labels-end-requires : goal.put_labels-end-requires
put_labels-end-requires c =
    record { labels_nonzero = c.requires.labels_nonzero; room_for = room_first _ _ (room_3 (goal.at.put_labels-end-requires c).After-put_byte-gap) }

pub put_byte-requires : goal.put_byte-requires
put_byte-requires c =
    room_4 (goal.at.put_byte-requires c).After-put_labels-end

pub shape_of-line : goal.shape_of-line
shape_of-line c =
    put_length (done (goal.at.shape_of-line c).After-put_byte)

pub returns : goal.returns
returns c =
    put_line c.requires.room_for (done (goal.at.returns c).After-put_byte)
