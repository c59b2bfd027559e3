-- `distinct::learn` meets its contract. Assumes nothing.
use native.Mathlib.Omega.{arith}
use Rattle.distinct.proofs.Learning.{searchable, slot_inside, name_new, name_old}
use Rattle.distinct.proofs.learn.Goals as goal

pub seek-i-requires : goal.seek-i-requires
seek-i-requires c =
    (searchable _ _ _ _ c.requires.tabled.0, c.requires.tabled.1)

pub at-v-requires : goal.at-v-requires
at-v-requires c =
    slot_inside _ _ _ _ _ _ c.requires.tabled.0 c.seek-i.ensures

pub offset_bounds-slots-i : goal.offset_bounds-slots-i
offset_bounds-slots-i c =
    omega (arith, slot_inside _ _ _ _ _ _ c.requires.tabled.0 c.seek-i.ensures, c.requires.tabled.0.few)

pub bounds-slots-i : goal.bounds-slots-i
bounds-slots-i c =
    slot_inside _ _ _ _ _ _ c.requires.tabled.0 c.seek-i.ensures

pub returns-then-v-eq0 : goal.returns-then-v-eq0
returns-then-v-eq0 c known k =
    name_new _ _ _ _ _ _ _ c.requires.tabled.0 c.seek-i.ensures c.at-v.ensures known k c.requires.count_in_bounds.0 (omega (arith, c.requires.tabled.1.1.low, c.requires.tabled.1.1.inside)) _ c.in_slot.ensures c.if-v-eq0.true

pub returns : goal.returns
returns c known k =
    name_old _ _ _ _ _ _ _ c.requires.tabled.0 c.seek-i.ensures c.at-v.ensures known k c.if-v-eq0.false
