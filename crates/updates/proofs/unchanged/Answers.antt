-- `updates::unchanged` meets its contract. Assumes nothing.
use mathlib.Core.Path.{refl}
use native.Mathlib.Omega.{arith}
use Rattle.training.specs.Visits.{unchanged}
use Rattle.updates.proofs.unchanged.Goals as goal

pub overflow_add-result : goal.overflow_add-result
overflow_add-result c = omega (arith, c.requires)

pub returns : goal.returns
unfolding unchanged
returns c = λ l. refl
