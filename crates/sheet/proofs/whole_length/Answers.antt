-- `sheet::whole_length` meets its contract. Assumes nothing.
use Prim.Native.Nat.{◌+◌, ◌*◌, ◌≤◌}
use native.Mathlib.Omega.{arith}
use Rattle.sheet.proofs.Bytes.{small_sizes}
use Rattle.sheet.proofs.whole_length.Goals.{After-words_in-words}
use Rattle.sheet.proofs.whole_length.Goals as goal

fit : (c : After-words_in-words) → c.labels_in-labels.result * c.labels_in-labels.result + c.words_in-words.result * c.labels_in-labels.result ≤ 16842240
fit c = small_sizes c.labels_in-labels.ensures.1 c.words_in-words.ensures.1

pub overflow_mul-result : goal.overflow_mul-result
overflow_mul-result c = omega (arith, fit (goal.at.overflow_mul-result c).After-words_in-words)

pub overflow_mul-result-2 : goal.overflow_mul-result-2
overflow_mul-result-2 c = omega (arith, fit (goal.at.overflow_mul-result-2 c).After-words_in-words)

pub overflow_add-result : goal.overflow_add-result
overflow_add-result c = omega (arith, fit (goal.at.overflow_add-result c).After-words_in-words)

pub overflow_mul-result-3 : goal.overflow_mul-result-3
overflow_mul-result-3 c = omega (arith, fit (goal.at.overflow_mul-result-3 c).After-words_in-words)

pub overflow_add-result-2 : goal.overflow_add-result-2
overflow_add-result-2 c = omega (arith, fit (goal.at.overflow_add-result-2 c).After-words_in-words)

pub returns : goal.returns
returns c = rw (c.labels_in-labels.ensures.0, c.words_in-words.ensures.0) (omega arith)
