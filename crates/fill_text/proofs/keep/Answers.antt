-- `fill_text::keep` meets its contract. Assumes nothing.
use native.Mathlib.Omega.{arith}
use Rattle.byte_buffers.proofs.Laws.{put_nothing}
use Rattle.fill_text.proofs.Laying.{past}
use Rattle.fill_text.proofs.keep.Goals as goal

pub returns-then-to-from : goal.returns-then-to-from
returns-then-to-from c = put_nothing (past c.args.text.now c.args.from c.args.to c.requires.0 (omega arith))
