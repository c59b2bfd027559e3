-- `distinct::learn_label` meets its contract. Assumes nothing.
use native.Mathlib.Omega.{arith}
use Rattle.distinct.proofs.Learning.{label_new, label_old}
use Rattle.distinct.proofs.learn_label.Goals as goal

pub returns-then-id-count : goal.returns-then-id-count
returns-then-id-count c known k =
    label_new _ _ _ _ _ _ k c.requires.count_in_bounds.0 (omega (arith, c.requires.listed.1.1.low, c.requires.listed.1.1.inside)) (c.label_id-id.ensures known k) c.if-id-count.true

pub returns-else-id-count : goal.returns-else-id-count
returns-else-id-count c known k =
    label_old _ _ _ _ _ _ k (c.label_id-id.ensures known k) c.if-id-count.false
