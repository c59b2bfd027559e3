-- `sheet::states_from` meets its contract. Assumes nothing.
use Prim.Native.Nat.{◌+◌, ◌*◌, ◌≤◌}
use native.Mathlib.Omega.{arith}
use Rattle.sheet.proofs.Bytes.{small_sizes}
use Rattle.sheet.proofs.states_from.Goals.{After-labels_in-labels}
use Rattle.sheet.proofs.states_from.Goals as goal

fit : (c : After-labels_in-labels) → c.labels_in-labels.result * c.labels_in-labels.result + 0 * c.labels_in-labels.result ≤ 16842240
fit c = small_sizes c.labels_in-labels.ensures.1 (omega arith)

pub overflow_mul-result : goal.overflow_mul-result
overflow_mul-result c = omega (arith, fit (goal.at.overflow_mul-result c).After-labels_in-labels)

pub overflow_mul-result-2 : goal.overflow_mul-result-2
overflow_mul-result-2 c = omega (arith, fit (goal.at.overflow_mul-result-2 c).After-labels_in-labels)

pub overflow_add-result : goal.overflow_add-result
overflow_add-result c = omega (arith, fit (goal.at.overflow_add-result c).After-labels_in-labels)

pub returns : goal.returns
returns c = rw c.labels_in-labels.ensures.0 (omega arith)
