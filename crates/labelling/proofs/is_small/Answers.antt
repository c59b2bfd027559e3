-- `labelling::is_small` meets its contract. Assumes nothing.
use native.Mathlib.Omega.{arith}
use Rattle.labelling.proofs.Laws.{few_transitions, few_states}
use Rattle.labelling.proofs.is_small.Goals as goal

pub overflow_mul-result : goal.overflow_mul-result
overflow_mul-result c = omega (arith, few_transitions c.requires.0)

pub overflow_mul-result-2 : goal.overflow_mul-result-2
overflow_mul-result-2 c = omega (arith, few_states c.requires.0 c.requires.1)
