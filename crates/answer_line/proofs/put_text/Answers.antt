-- `answer_line::put_text` meets its contract: its bytes from the first to the last are the text. Assumes nothing.
use mathlib.Core.Path.{sym}
use native.Mathlib.Omega.{arith}
use lib.Seq.{take-length}
use Rattle.byte_buffers.proofs.Laws.{put_as, room_as}
use Rattle.answer_line.proofs.put_text.Goals as goal

pub put_bytes-requires : goal.put_bytes-requires
put_bytes-requires c =
    record { from_le_to = (omega arith, omega arith); room_for = room_as (sym (take-length c.args.text.now)) c.requires }

pub returns : goal.returns
returns c =
    put_as (take-length c.args.text.now) c.put_bytes.ensures
