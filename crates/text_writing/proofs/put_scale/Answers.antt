-- `text_writing::put_scale` meets its contract. Assumes nothing.
use mathlib.Core.Path.{sym}
use Rattle.byte_buffers.proofs.Laws.{put_nothing, put_then, room_first, room_next, put_as}
use Rattle.text_writing.proofs.Laws.{scale_none, scale_some, room_as}
use Rattle.text_writing.proofs.put_scale.Goals as goal

pub returns-then-from-to : goal.returns-then-from-to
returns-then-from-to c =
    put_nothing (scale_none c.requires.string_stands c.at-from.ensures c.at-to.ensures c.if-from-to.true)

pub put_byte-colon-requires : goal.put_byte-colon-requires
put_byte-colon-requires c =
    room_first _ _ (room_as (sym (scale_some c.requires.string_stands c.at-from.ensures c.at-to.ensures c.if-from-to.false)) c.requires.room_for)

pub put_bytes-requires-clause-room_for : goal.put_bytes-requires-clause-room_for
put_bytes-requires-clause-room_for c =
    room_next _ c.put_byte-colon.ensures (room_as (sym (scale_some c.requires.string_stands c.at-from.ensures c.at-to.ensures c.if-from-to.false)) c.requires.room_for)

pub returns : goal.returns
returns c =
    put_as (sym (scale_some c.requires.string_stands c.at-from.ensures c.at-to.ensures c.if-from-to.false)) (put_then c.put_byte-colon.ensures c.put_bytes.ensures)
