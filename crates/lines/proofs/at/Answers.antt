-- `lines::at` meets its contract: a number of 32 bits fits an index. Assumes nothing.
use native.Mathlib.Omega.{arith}
use Rattle.lines.proofs.at.Goals as goal

pub overflow_cast-result : goal.overflow_cast-result
overflow_cast-result c = omega (arith, c.type_inv.table c.args.i)
