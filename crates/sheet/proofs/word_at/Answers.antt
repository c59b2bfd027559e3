-- `sheet::word_at` meets its contract. Assumes nothing.
use native.Mathlib.Omega.{arith}
use Rattle.sheet.proofs.Bytes.{four_halves}
use Rattle.sheet.proofs.word_at.Goals as goal

pub returns : goal.returns
returns c =
    rw (c.half_at-d.ensures.0, c.half_at-c.ensures.0, c.half_at-b.ensures.0, c.half_at-a.ensures.0)
    (omega (arith, four_halves c.args.bytes.now c.args.at c.requires))
