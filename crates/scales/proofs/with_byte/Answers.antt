-- `scales::with_byte` meets its contract. Assumes nothing.
use Rattle.std.proofs.Common.{arith}
use Rattle.scales.proofs.Gathered.{amount_fits}
use Rattle.scales.proofs.with_byte.Goals as goal

pub overflow_mul-result : goal.overflow_mul-result
overflow_mul-result c = omega (arith, amount_fits _ _ c.requires)

pub overflow_add-result-2 : goal.overflow_add-result-2
overflow_add-result-2 c = omega (arith, amount_fits _ _ c.requires)
