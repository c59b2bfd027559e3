-- `text_writing::put_name` meets its contract. Assumes nothing.
use mathlib.Core.Path.{ap}
use Rattle.layout.specs.Layout.{escaped}
use Rattle.byte_buffers.proofs.Laws.{put_as}
use Rattle.text_writing.proofs.Laws.{part_is, room_as}
use Rattle.text_writing.proofs.put_name.Goals as goal

pub put_escaped-requires-clause-room_for : goal.put_escaped-requires-clause-room_for
put_escaped-requires-clause-room_for c =
    room_as (ap escaped (part_is c.requires.string_stands c.at-from.ensures c.at-to.ensures)) c.requires.room_for

pub returns : goal.returns
returns c =
    put_as (ap escaped (part_is c.requires.string_stands c.at-from.ensures c.at-to.ensures)) c.put_escaped.ensures
