-- `distinct::id_of` meets its contract. Assumes nothing.
use native.Mathlib.Omega.{arith}
use Rattle.distinct.proofs.Learning.{searchable, slot_inside, id_new, id_old}
use Rattle.distinct.proofs.id_of.Goals as goal

pub seek-i-requires : goal.seek-i-requires
seek-i-requires c =
    (searchable _ _ _ _ c.requires.0, c.requires.1)

pub at-v-requires : goal.at-v-requires
at-v-requires c =
    slot_inside _ _ _ _ _ _ c.requires.0 c.seek-i.ensures

pub overflow_sub-result : goal.overflow_sub-result
overflow_sub-result c = omega (arith, c.if-v-eq0.false)

pub returns-then-v-eq0 : goal.returns-then-v-eq0
returns-then-v-eq0 c known k =
    id_new _ _ _ _ _ _ _ c.requires.0 c.seek-i.ensures c.at-v.ensures known k c.if-v-eq0.true

pub returns-else-v-eq0 : goal.returns-else-v-eq0
returns-else-v-eq0 c known k =
    id_old _ _ _ _ _ _ _ c.requires.0 c.seek-i.ensures c.at-v.ensures known k c.if-v-eq0.false
