-- `step_back` meets its contract. Assumes nothing.
use native.Mathlib.Omega.{arith}
use Rattle.viterbi_end.proofs.step_back.Goals as goal

pub overflow_cast-result : goal.overflow_cast-result
overflow_cast-result c = omega (arith, c.type_inv.steps c.args.place)
