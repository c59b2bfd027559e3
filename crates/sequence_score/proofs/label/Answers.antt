-- `sequence_score::label` meets its contract. Assumes nothing.
use native.Mathlib.Omega.{arith}
use Rattle.sequence_score.proofs.label.Goals as goal

pub overflow_cast-result : goal.overflow_cast-result
overflow_cast-result c = omega (arith, c.type_inv.path c.args.word)
