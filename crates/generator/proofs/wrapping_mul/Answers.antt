-- `generator::wrapping_mul` meets its contract: each product of halves fits, and together they are the product. Assumes nothing.
use Rattle.std.proofs.Common.{arith, refl}
use Rattle.generator.proofs.Product.{below, halves}
use Rattle.generator.proofs.wrapping_mul.Goals as goal

pub overflow_mul-mid : goal.overflow_mul-mid
overflow_mul-mid c = record { fits = below 32 (omega arith) (omega arith) }

pub overflow_mul-mid-2 : goal.overflow_mul-mid-2
overflow_mul-mid-2 c = record { fits = below 32 (omega arith) (omega arith) }

pub overflow_mul-result : goal.overflow_mul-result
overflow_mul-result c = record { fits = below 32 (omega arith) (omega arith) }

pub returns : goal.returns
returns c = halves c.args.a c.args.b _ refl
